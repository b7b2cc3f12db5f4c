-- The laws of all groups, and with them those of the rule: rule_laws.
use Rattle.st_words.specs.Careful.{Meaning}
use Rattle.st_lists.proofs.Firsts.{first_lists}
use Rattle.st_lists.proofs.Steps.{step_kept as lists_kept}
use Rattle.st_lists.proofs.Moves.{move_laws as lists_moves}
use Rattle.st_lists.proofs.Told.{told_laws as lists_told}
use Rattle.st_spots.proofs.Tidies.{view_laws as lists_view}
use Rattle.st_places.proofs.Kept.{kept as places_kept}
use Rattle.st_seats.proofs.Moved.{move_laws as places_moves}
use Rattle.st_seats.proofs.Slots.{slot_laws}
use Rattle.st_seats.proofs.Told.{told_laws as places_told}
use Rattle.st_seats.proofs.Rested.{rest_laws}
use Rattle.st_seats.proofs.Firsts.{first_places}
use Rattle.st_leases.proofs.Steps.{step_kept as leases_kept}
use Rattle.st_holders.proofs.Held.{held_laws}
use Rattle.st_leases.proofs.Follows.{move_laws as leases_moves, told_laws as leases_told}
use Rattle.st_leases.proofs.Firsts.{first_leases}
use Rattle.st_requests.proofs.Steps.{step_kept as requests_kept}
use Rattle.st_requests.proofs.Follows.{move_laws as requests_moves, slot_laws as mail_laws, told_laws as requests_told}
use Rattle.st_requests.proofs.Firsts.{first_requests}
use Rattle.st_counts.proofs.Steps.{step_kept as counts_kept}
use Rattle.st_counts.proofs.Moves.{move_laws as counts_moves}
use Rattle.st_counts.proofs.Follows.{told_laws as counts_told, none_laws}
use Rattle.st_counts.proofs.Firsts.{first_counts}
use Rattle.st_draws.proofs.Steps.{careful_kept as draws_kept, move_laws as draws_moves}
use Rattle.st_draws.proofs.Follows.{told_laws as draws_told}
use Rattle.st_draws.proofs.Firsts.{first_draws}
use Rattle.st_knows.proofs.Steps.{careful_kept as knows_kept, move_laws as knows_moves}
use Rattle.st_knows.proofs.Follows.{told_laws as knows_told}
use Rattle.st_knows.proofs.Firsts.{first_knows}
use Rattle.st_threads.proofs.Steps.{steps_go, step_kept as threads_kept}
use Rattle.st_threads.proofs.Moves.{moves_go, moves_kept as threads_moves}
use Rattle.st_threads.proofs.Holdings.{told_laws as threads_told}
use Rattle.st_threads.proofs.Firsts.{first_threads}
use Rattle.st_named.proofs.Steps.{step_kept as names_kept}
use Rattle.st_named.proofs.Moves.{moves_keep as names_moves}
use Rattle.st_names.proofs.Follows.{told_laws as names_told}
use Rattle.st_names.proofs.Firsts.{first_names}
use Rattle.st_output.proofs.Steps.{step_kept as output_kept, move_kept as output_moves}
use Rattle.st_output.proofs.Firsts.{first_output}
use Rattle.st_limits.proofs.Steps.{step_kept as limits_kept}
use Rattle.st_limits.proofs.Moves.{move_kept as limits_moves}
use Rattle.st_limits.proofs.Firsts.{first_limits}
use Rattle.st_walks.proofs.Walks.{step_kept as walks_kept}
use Rattle.st_walks.proofs.Firsts.{first_walks}
use Rattle.st_rule.specs.Laws.{RuleLaws}
use Rattle.st_rule.proofs.Groups.{Groups}
use Rattle.st_rule.proofs.Kept.{rule_kept}
use Rattle.st_rule.proofs.Moves.{moves_kept}
use Rattle.st_rule.proofs.Settled.{rule_settles}
use Rattle.st_rule.proofs.Told.{rule_told, rule_comes}
use Rattle.st_rule.proofs.Tidy.{rule_tidy}
use Rattle.st_rule.proofs.Following.{rule_follows, fills_once}
use Rattle.st_rule.proofs.Opened.{rule_opened, rule_rests}

groups : (m : Meaning) → Groups m
groups m = record {
  lists_kept = lists_kept;
  lists_moves = lists_moves;
  lists_view = lists_view;
  lists_told = lists_told;
  lists_first = first_lists;
  places_kept = places_kept m;
  places_moves = places_moves;
  slots = slot_laws;
  places_told = places_told;
  rest = rest_laws;
  places_first = first_places;
  leases_kept = leases_kept;
  leases_moves = leases_moves;
  held = held_laws;
  leases_told = leases_told;
  leases_first = first_leases;
  requests_kept = requests_kept;
  requests_moves = requests_moves;
  mail = mail_laws;
  requests_told = requests_told;
  requests_first = first_requests;
  counts_kept = counts_kept;
  counts_moves = counts_moves;
  counts_told = counts_told;
  none = none_laws;
  counts_first = first_counts;
  draws_kept = draws_kept m;
  draws_moves = draws_moves;
  draws_told = draws_told;
  draws_first = first_draws;
  knows_kept = knows_kept m;
  knows_moves = knows_moves;
  knows_told = knows_told;
  knows_first = first_knows;
  step_goes = steps_go;
  move_goes = moves_go;
  threads_kept = threads_kept m;
  threads_moves = threads_moves;
  threads_told = threads_told;
  threads_first = first_threads;
  names_kept = names_kept m;
  names_moves = names_moves;
  names_told = names_told;
  names_first = first_names;
  output_kept = output_kept;
  output_moves = output_moves;
  output_first = first_output;
  limits_kept = limits_kept m;
  limits_moves = limits_moves;
  limits_first = first_limits;
  walks_kept = walks_kept m;
  walks_first = first_walks m;
}

pub rule_laws : (m : Meaning) → RuleLaws m
rule_laws m = record {
  kept = λ program source limits. rule_kept m (groups m) program source limits;
  moves = λ program source limits. moves_kept m (groups m) program source limits;
  settles = λ program source limits. rule_settles m program source limits (moves_kept m (groups m) program source limits);
  told = λ program source limits. rule_told m (groups m) program source limits;
  tidy = λ program source limits. rule_tidy m (groups m) program source limits;
  comes = λ program source limits. rule_comes m (groups m) program source limits;
  follows = λ program source limits. rule_follows m (groups m) program source limits;
  fills_once = λ program source limits. fills_once m (groups m) program source limits;
  rests = λ program source limits. rule_rests m (groups m) program source limits;
  opened = λ program source limits. rule_opened m (groups m) program source limits;
}
