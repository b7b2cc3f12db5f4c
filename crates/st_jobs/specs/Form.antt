-- The test of the form of words, word by word. The words to use: next_waiting for one word, fits for what is left of them.
use Rattle.std.specs.Prelude.{Bool, true, false, not, List, [], Option, Some, None, is_some, if◌then◌else◌}
use Rattle.st_jobs.specs.Words.{Text, Mark, plain, named, wrong, items_from}

-- whether an option waits for its value after a word; none where the word may not stand
abbrev pub next_waiting : Mark → Bool → Option Bool
next_waiting (plain word) waiting = Some false
next_waiting (named name value) waiting = if waiting then None else Some (not (is_some value))
next_waiting wrong waiting = None

-- some option, where one waits
abbrev pub waiting_option : Bool → Option Text
waiting_option true = Some []
waiting_option false = None

-- the words from here on have items
abbrev pub fits : List Mark → Bool → Bool
fits marks waiting = is_some (items_from marks (waiting_option waiting))
