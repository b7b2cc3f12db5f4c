-- The laws of all groups as one record, which the rule's proofs take.
use Rattle.st_words.specs.Careful.{Meaning}
use Rattle.st_spots.specs.Laws.{ViewLaws as ListsView}
use Rattle.st_lists.specs.Laws.{Kept as ListsKept, MoveLaws as ListsMoves, ToldLaws as ListsTold, First as ListsFirst}
use Rattle.st_places.specs.Laws.{Kept as PlacesKept}
use Rattle.st_seats.specs.Laws.{MoveLaws as PlacesMoves, SlotLaws, ToldLaws as PlacesTold, RestLaws, First as PlacesFirst}
use Rattle.st_holders.specs.Laws.{HeldLaws}
use Rattle.st_leases.specs.Laws.{Kept as LeasesKept, MoveLaws as LeasesMoves, ToldLaws as LeasesTold, First as LeasesFirst}
use Rattle.st_requests.specs.Laws.{Kept as RequestsKept, MoveLaws as RequestsMoves, SlotLaws as MailLaws, ToldLaws as RequestsTold, First as RequestsFirst}
use Rattle.st_counts.specs.Laws.{Kept as CountsKept, MoveLaws as CountsMoves, ToldLaws as CountsTold, NoneLaws, First as CountsFirst}
use Rattle.st_draws.specs.Laws.{Kept as DrawsKept, MoveLaws as DrawsMoves, ToldLaws as DrawsTold, First as DrawsFirst}
use Rattle.st_knows.specs.Laws.{Kept as KnowsKept, MoveLaws as KnowsMoves, ToldLaws as KnowsTold, First as KnowsFirst}
use Rattle.st_threads.specs.Laws.{StepGoes, MoveGoes, Kept as ThreadsKept, MovesKept as ThreadsMoves, ToldLaws as ThreadsTold, First as ThreadsFirst}
use Rattle.st_named.specs.Laws.{Kept as NamesKept, MovesKept as NamesMoves}
use Rattle.st_names.specs.Laws.{Told as NamesTold, First as NamesFirst}
use Rattle.st_output.specs.Laws.{Kept as OutputKept, MovesKept as OutputMoves, First as OutputFirst}
use Rattle.st_limits.specs.Laws.{Kept as LimitsKept, MovesKept as LimitsMoves, First as LimitsFirst}
use Rattle.st_walks.specs.Laws.{Kept as WalksKept, First as WalksFirst}

pub record Groups (m : Meaning) : Type 0 where
  pub lists_kept : ListsKept
  pub lists_moves : ListsMoves
  pub lists_view : ListsView
  pub lists_told : ListsTold
  pub lists_first : ListsFirst
  pub places_kept : PlacesKept m
  pub places_moves : PlacesMoves
  pub slots : SlotLaws
  pub places_told : PlacesTold
  pub rest : RestLaws
  pub places_first : PlacesFirst
  pub leases_kept : LeasesKept
  pub leases_moves : LeasesMoves
  pub held : HeldLaws
  pub leases_told : LeasesTold
  pub leases_first : LeasesFirst
  pub requests_kept : RequestsKept
  pub requests_moves : RequestsMoves
  pub mail : MailLaws
  pub requests_told : RequestsTold
  pub requests_first : RequestsFirst
  pub counts_kept : CountsKept
  pub counts_moves : CountsMoves
  pub counts_told : CountsTold
  pub none : NoneLaws
  pub counts_first : CountsFirst
  pub draws_kept : DrawsKept m
  pub draws_moves : DrawsMoves
  pub draws_told : DrawsTold
  pub draws_first : DrawsFirst
  pub knows_kept : KnowsKept m
  pub knows_moves : KnowsMoves
  pub knows_told : KnowsTold
  pub knows_first : KnowsFirst
  pub step_goes : StepGoes
  pub move_goes : MoveGoes
  pub threads_kept : ThreadsKept m
  pub threads_moves : ThreadsMoves
  pub threads_told : ThreadsTold
  pub threads_first : ThreadsFirst
  pub names_kept : NamesKept m
  pub names_moves : NamesMoves
  pub names_told : NamesTold
  pub names_first : NamesFirst
  pub output_kept : OutputKept
  pub output_moves : OutputMoves
  pub output_first : OutputFirst
  pub limits_kept : LimitsKept m
  pub limits_moves : LimitsMoves
  pub limits_first : LimitsFirst
  pub walks_kept : WalksKept m
  pub walks_first : WalksFirst m
