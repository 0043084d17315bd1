-- What all records have counted, after one has counted more: a sum, of which one term grows.
use Rattle.std.proofs.Common.{◌≡◌, ℕ, zero, suc, ◌+◌, List, [], ◌∷◌, ◌++◌, Some, slice_get, slice_set, refl, ap, sym, ◌∙◌, arith}
use Rattle.std.proofs.lemmas.Option.{same_Some}
use Rattle.rgo_sound.specs.RegionMachine.Counts.{Counts}
use Rattle.rgo_sound.specs.Tally.{counts_plus, no_share}
use Rattle.rgo_core.specs.Records.{ClockRec, all_counted, counted, instructed}

swap : (a x y : ℕ) → a + y + x ≡ a + x + y
swap a x y = omega arith

pub plus_swap : (a x y : Counts) → counts_plus (counts_plus a y) x ≡ counts_plus (counts_plus a x) y
plus_swap a x y = λ i. record {
  made = swap a.made x.made y.made i;
  removed = swap a.removed x.removed y.removed i;
  taken = swap a.taken x.taken y.taken i;
  returned = swap a.returned x.returned y.returned i;
  steps = swap a.steps x.steps y.steps i;
  objects = swap a.objects x.objects y.objects i;
  goroutines = swap a.goroutines x.goroutines y.goroutines i;
}

assoc : (a b c : ℕ) → a + b + c ≡ a + (b + c)
assoc a b c = omega arith

pub plus_assoc : (a b c : Counts) → counts_plus (counts_plus a b) c ≡ counts_plus a (counts_plus b c)
plus_assoc a b c = λ i. record {
  made = assoc a.made b.made c.made i;
  removed = assoc a.removed b.removed c.removed i;
  taken = assoc a.taken b.taken c.taken i;
  returned = assoc a.returned b.returned c.returned i;
  steps = assoc a.steps b.steps c.steps i;
  objects = assoc a.objects b.objects c.objects i;
  goroutines = assoc a.goroutines b.goroutines c.goroutines i;
}

zero_more : (n : ℕ) → n + 0 ≡ n
zero_more n = omega arith

pub plus_zero : (a b : ℕ) → a ≡ b → a ≡ b + 0
plus_zero a b e = omega (arith, e)

pub plus_none : (c : Counts) → counts_plus c no_share ≡ c
plus_none c = λ i. record {
  made = zero_more c.made i;
  removed = zero_more c.removed i;
  taken = zero_more c.taken i;
  returned = zero_more c.returned i;
  steps = zero_more c.steps i;
  objects = zero_more c.objects i;
  goroutines = zero_more c.goroutines i;
}

pub counted_more : (recs : List ClockRec) (g : ℕ) (c d : ClockRec) (x : Counts) → slice_get recs g ≡ Some c
    → counted d ≡ counts_plus (counted c) x → all_counted (slice_set recs g d) ≡ counts_plus (all_counted recs) x
counted_more [] g c d x e more = cc
counted_more (r ∷ recs) zero c d x e more =
    ap (λ (y : Counts). counts_plus y (all_counted recs)) (more ∙ ap (λ (y : ClockRec). counts_plus (counted y) x) (sym (same_Some r c e)))
    ∙ plus_swap (counted r) (all_counted recs) x
counted_more (r ∷ recs) (suc g) c d x e more =
    ap (counts_plus (counted r)) (counted_more recs g c d x e more) ∙ sym (plus_assoc (counted r) (all_counted recs) x)

pub counted_same : (recs : List ClockRec) (g : ℕ) (c d : ClockRec) → slice_get recs g ≡ Some c → counted d ≡ counted c
    → all_counted (slice_set recs g d) ≡ all_counted recs
counted_same recs g c d e same = counted_more recs g c d no_share e (same ∙ sym (plus_none (counted c))) ∙ plus_none (all_counted recs)

pub counted_child : (recs : List ClockRec) (child : ClockRec) → counted child ≡ no_share → all_counted (recs ++ child ∷ []) ≡ all_counted recs
counted_child [] child z = ap (λ (y : Counts). counts_plus y no_share) z
counted_child (r ∷ recs) child z = ap (counts_plus (counted r)) (counted_child recs child z)

-- an instruction is one step more, by an access or without
pub instructed_counts : (c : ClockRec) → counted (instructed c) ≡ counts_plus (counted c) (record no_share { steps = 1 })
instructed_counts c = λ i. record {
  made = plus_zero c.share.made c.share.made refl i;
  removed = plus_zero c.share.removed c.share.removed refl i;
  taken = plus_zero c.share.taken c.share.taken refl i;
  returned = plus_zero (c.share.returned + c.owed) (c.share.returned + c.owed) refl i;
  steps = (let e : suc c.share.steps ≡ c.share.steps + 1 = omega arith in e) i;
  objects = plus_zero c.share.objects c.share.objects refl i;
  goroutines = plus_zero c.share.goroutines c.share.goroutines refl i;
}
