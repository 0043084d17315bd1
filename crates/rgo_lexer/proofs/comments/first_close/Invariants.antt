use Rattle.std.proofs.Common.{◌≡◌, ◌+◌, drop}
use Rattle.std.specs.Prelude.{option_map}
use Rattle.rgo_lexer.specs.Comments.{first_close}
use Rattle.rgo_lexer.proofs.comments.first_close.Given as goal

-- the first close in the rest is the text's
abbrev pub invariant-loop-at : goal.invariant-loop-at
invariant-loop-at l =
    option_map (λ k. k + l.at) (first_close (drop l.at l.text)) ≡ first_close l.text
