-- What a list of boxes contains. The driver moves boxes, and clauses speak of the goroutines in them.
use Rattle.std.specs.Prelude.{Box, List, map}

abbrev pub in_boxes : {T A : Type 0} → List (Box T A) → List T
in_boxes boxes = map (λ b. b.value) boxes
