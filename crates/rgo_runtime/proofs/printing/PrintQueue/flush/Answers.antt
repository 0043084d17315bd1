-- The clauses of the walk speak of the sorted list; a permutation carries them back to the list as it was, and the equation of the view to
-- the queue.
use Rattle.rgo_runtime.proofs.lists.Walks.{sorted_out, sorted_pieces, sorted_some}
use Rattle.rgo_runtime.proofs.printing.PrintQueue.flush.Goals as goal

pub returns-in-Ok-clause-given : goal.returns-in-Ok-clause-given
returns-in-Ok-clause-given g c = rw (← c.self.view_is) (sorted_out _ _ c.sort_by_ticket.ensures.same _ _ _ _ _ c.in-Ok.ensures.given)

pub returns-in-Ok-clause-pieces : goal.returns-in-Ok-clause-pieces
returns-in-Ok-clause-pieces g c = rw (← c.self.view_is) (sorted_pieces _ _ c.sort_by_ticket.ensures.same _ _ c.in-Ok.ensures.pieces)

pub returns-in-Err-clause-part : goal.returns-in-Err-clause-part
returns-in-Err-clause-part g c = rw (← c.self.view_is) (sorted_some _ _ c.sort_by_ticket.ensures.same _ _ _ c.in-Err.ensures.part)

pub returns-in-Err-clause-pieces : goal.returns-in-Err-clause-pieces
returns-in-Err-clause-pieces g c = rw (← c.self.view_is) (sorted_pieces _ _ c.sort_by_ticket.ensures.same _ _ c.in-Err.ensures.pieces)
