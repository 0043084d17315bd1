use Rattle.std.specs.Prelude.{Option, None}
use Rattle.std.specs.List.{FoldsTo}
use Rattle.std.proofs.Common.{◌≡◌, ℕ, zero, suc, ◌<◌, List, [], ◌∷◌, ◌++◌, take, get_or, refl, ap, ◌∙◌, arith, rules}
use Rattle.rgo_interpreter.proofs.blocks.Block.put.Goals as goal

-- new elements that are all None
module _ {F X : Type 0} (step : F → Option X → F → Type 0)
    (none : (f : F) (x : Option X) (g : F) → step f x g → x ≡ None) where
  each_none : (ys : List (Option X)) (k : ℕ) (f last : F) → FoldsTo step f ys last → get_or ys k None ≡ None
  each_none [] k f last calls = refl
  each_none (y ∷ ys) zero f last calls = none f y calls.0 calls.1
  each_none (y ∷ ys) (suc k) f last calls = each_none ys k calls.0 last calls.2

  padded : (old : List (Option X)) (slot k : ℕ) (ys : List (Option X)) (f last : F) → FoldsTo step f ys last → k < slot
      → get_or (take slot old ++ ys) k None ≡ get_or old k None
  padded old zero k ys f last calls before = absurd (omega (arith, before))
  padded [] (suc slot) k ys f last calls before = each_none ys k f last calls
  padded (x ∷ old) (suc slot) zero ys f last calls before = refl
  padded (x ∷ old) (suc slot) (suc k) ys f last calls before = padded old slot k ys f last calls (omega (arith, before))

pub returns-in_err-push-clause-kept : goal.returns-in_err-push-clause-kept
returns-in_err-push-clause-kept c k before =
    let made = c.in_ok-resize_with.ensures.items in
    c.push.ensures.by_index.0 k None (omega (arith, before, c.in_ok-resize_with.ensures.len))
    ∙ ap (λ l. get_or l k None) made.2
    ∙ padded _ (λ f x g called. search rules) c.args.self.now.slots.items c.args.slot k made.0 _ made.1 made.3 before

pub returns-clause-kept : goal.returns-clause-kept
returns-clause-kept c k before =
    let made = c.in_ok-resize_with.ensures.items in
    c.push.ensures.by_index.0 k None (omega (arith, before, c.in_ok-resize_with.ensures.len))
    ∙ ap (λ l. get_or l k None) made.2
    ∙ padded _ (λ f x g called. search rules) c.args.self.now.slots.items c.args.slot k made.0 _ made.1 made.3 before
