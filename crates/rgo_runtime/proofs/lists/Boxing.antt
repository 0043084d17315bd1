-- What boxes contain, when one of them changes. The driver has its goroutines in boxes, and the definitions speak of the goroutines: each
-- lemma moves a fact through `in_boxes`.
use Rattle.std.proofs.Common.{◌≡◌, ◌<◌, ℕ, List, [], ◌∷◌, ◌++◌, Box, get_or, length, set, subst, sym, ◌∙◌, arith}
use Rattle.std.specs.List.{All}
use Rattle.std.proofs.lemmas.List.{get_or-map, length-map, map-append, map-set}
use Rattle.std.proofs.lemmas.List.Elements.{All-get_or}
use Rattle.std.specs.Box.{with_value}
use Rattle.rgo_runtime.specs.Boxes.{in_boxes}

module _ {T A : Type 0} where
  pub boxes_length : (bs : List (Box T A)) → length (in_boxes bs) ≡ length bs
  boxes_length bs = length-map bs (λ b. b.value)

  -- one box more
  pub boxes_more : (bs : List (Box T A)) (b : Box T A) → in_boxes (bs ++ b ∷ []) ≡ in_boxes bs ++ b.value ∷ []
  boxes_more bs b = map-append (λ b. b.value) bs (b ∷ [])

  -- the box at i contains x
  pub record IsInBox (bs : List (Box T A)) (i : ℕ) (x : T) : Type 0 where
    pub within : i < length (in_boxes bs)
    pub is : x ≡ get_or (in_boxes bs) i x

  pub in_box : (bs : List (Box T A)) (i n : ℕ) (b : Box T A) (x : T) → length bs ≡ n → i < n → x ≡ (get_or bs i b).value
      → IsInBox bs i x
  in_box bs i n b x long less is =
      let inside : i < length bs = omega (arith, long, less) in
      record {
        within = omega (arith, boxes_length bs, inside);
        is = is ∙ sym (get_or-map (λ b. b.value) bs i b x inside);
      }

  -- it has what all have
  pub has_too : (P : T → Type 0) (bs : List (Box T A)) (i : ℕ) (x : T) → IsInBox bs i x → All P (in_boxes bs) → P x
  has_too P bs i x at all = subst P (sym at.is) (All-get_or P (in_boxes bs) i x at.within all)

  -- the box at i contains x from now on
  pub boxes_set : (bs : List (Box T A)) (i : ℕ) (b : Box T A) (x : T) → in_boxes (set bs i (with_value b x)) ≡ set (in_boxes bs) i x
  boxes_set bs i b x = map-set (λ b. b.value) bs i (with_value b x)
