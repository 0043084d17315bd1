-- Lists of what was computed for each function, with one element more.
use Rattle.std.proofs.Common.{◌≡◌, ◌+◌, ℕ, List, [], ◌∷◌, ◌++◌, Some, ap, map, slice_get, take, ◌∙◌}
use Rattle.std.proofs.lemmas.List.{map-append, take_more}
use Rattle.std.proofs.lemmas.Option.{get_or_from_slice_get, slice_get_within}
use Rattle.rgo_sound.specs.Code.Code.{CodeFn}

-- what is kept of each function, with that of the next one
pub kept_more : {X : Type 0} (keep : CodeFn → X) (fs : List CodeFn) (n : ℕ) (f : CodeFn) → slice_get fs n ≡ Some f
    → map keep (take (n + 1) fs) ≡ map keep (take n fs) ++ keep f ∷ []
kept_more keep fs n f at =
    ap (map keep) (take_more fs n f (slice_get_within fs n f at))
    ∙ map-append keep (take n fs) _
    ∙ ap (λ g. map keep (take n fs) ++ keep g ∷ []) (get_or_from_slice_get fs n f f at)
