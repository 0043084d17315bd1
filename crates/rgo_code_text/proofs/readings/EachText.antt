-- Each text is the text of code, or has a first line without form.
use Rattle.std.proofs.Common.{◌≡◌, ◌≢◌, ◌⊎◌, inl, inr, ℕ, zero, suc, ◌+◌, ◌<◌, ◌≤◌, List, [], ◌∷◌, ◌++◌, length, take, drop, Option, Some, None, true≢false, refl, sym, ap, subst, ◌∙◌, arith}
use Rattle.std.specs.List.{position_or_len}
use Rattle.std.specs.Option.{IsSome}
use Rattle.std.proofs.lemmas.List.Elements.{All-nil}
use Rattle.rgo_code_text.specs.declared.places.Place.{Place}
use Rattle.rgo_code_text.specs.declared.places.Place.TheVariants.{First, Structs, Globals, Functions, Slots, Body}
use Rattle.rgo_code_text.specs.Building.{code_of_items}
use Rattle.rgo_code_text.specs.Forms.{IsText, IsFirstWithoutForm}
use Rattle.rgo_code_text.specs.Items.{Item, ItemFits, item_line, place_after_item}
use Rattle.rgo_code_text.specs.Laws.{TextOrRefusal}
use Rattle.rgo_code_text.specs.Order.{IsLast}
use Rattle.rgo_code_words.specs.Readers.{IsReadFromBytes}
use Rattle.rgo_code_text.specs.Walk.{AreItems, StepIs, StopsAt}
use Rattle.rgo_code_text.proofs.line_forms.EachLine.{item_of_line}
use Rattle.rgo_code_text.proofs.op_lines.EachPrint.{same_or_not, first_within}
use Rattle.rgo_code_text.proofs.line_forms.ItemsOne.{items_one}
use Rattle.rgo_code_text.proofs.readings.Refusing.{read_is, refused}
use Rattle.rgo_code_text.proofs.line_forms.Walking.{ReadSoFar, is_newline, ends_here, stops_here, all_read, goes_on}

-- ---- a line in its place

record StepOf (place : Place) (bytes : List ℕ) : Type 0 where
  what : Option (Item × Place)
  is : StepIs place bytes what

step_of : (place : Place) (bytes : List ℕ) → StepOf place bytes
step_of place bytes = let r = item_of_line bytes in by r.what r.is
  where
    placed : (x : Item) → IsReadFromBytes ItemFits item_line bytes (Some x) → (next : Option Place) → place_after_item place x ≡ next → StepOf place bytes
    placed x is (Some next) e = record { what = Some (x, next); is = (is.0, is.1, e) }
    placed x is None e = record {
      what = None;
      is = λ y fits may same.
          let one : x ≡ y = items_one x y is.1 fits (sym is.0 ∙ same) in
          let none : place_after_item place y ≡ None = ap (place_after_item place) (sym one) ∙ e in
          true≢false (sym (subst IsSome none may));
    }

    by : (r : Option Item) → IsReadFromBytes ItemFits item_line bytes r → StepOf place bytes
    by None is = record { what = None; is = λ y fits may. is y fits }
    by (Some x) is = placed x is (place_after_item place x) refl

-- ---- all lines

is_last : (place : Place) → IsLast place ⊎ (¬ (IsLast place))
is_last First = inr (λ l. l)
is_last Structs = inl tt
is_last Globals = inl tt
is_last Functions = inl tt
is_last Slots = inr (λ l. l)
is_last (Body i) = inr (λ l. l)

-- the lines of a text, or where they stop
abbrev Walked : List ℕ → Type 0
Walked text = ((items : List Item) × AreItems text items) ⊎ ((n : ℕ) × StopsAt text n)

module _ (text : List ℕ) (items : List Item) (place : Place) (at line : ℕ) (r : ReadSoFar text items place at line)
    (more : (xs : List Item) (q : Place) (next k : ℕ) → at < next → ReadSoFar text xs q next k → Walked text) where
  within : position_or_len is_newline (drop at text) ≤ length (drop at text)
  within = first_within is_newline (drop at text)

  ends : position_or_len is_newline (drop at text) ≡ length (drop at text)
      → (position_or_len is_newline (drop at text) ≡ 0) ⊎ (position_or_len is_newline (drop at text) ≢ 0)
      → IsLast place ⊎ (¬ (IsLast place)) → Walked text
  ends e (inl z) (inl last) =
      inl (
        items,
        all_read text items place at (position_or_len is_newline (drop at text)) line (drop at text) refl refl within
            r.within r.fit r.leads r.cut r.number e z last,
      )
  ends e (inl z) (inr not) =
      inr (
        line,
        ends_here text items place at (position_or_len is_newline (drop at text)) line (drop at text) refl refl within
            r.within r.fit r.leads r.cut r.number e (λ zero. not),
      )
  ends e (inr some) last =
      inr (
        line,
        ends_here text items place at (position_or_len is_newline (drop at text)) line (drop at text) refl refl within
            r.within r.fit r.leads r.cut r.number e (λ zero. absurd (some zero)),
      )

  goes : position_or_len is_newline (drop at text) ≢ length (drop at text)
      → StepOf place (take (position_or_len is_newline (drop at text)) (drop at text)) → Walked text
  goes e s = by s.what s.is
    where
      by : (what : Option (Item × Place)) → StepIs place (take (position_or_len is_newline (drop at text)) (drop at text)) what
          → Walked text
      by None is =
          inr (
            line,
            stops_here text items place at (position_or_len is_newline (drop at text)) line (drop at text) refl refl within
                r.within r.fit r.leads r.cut r.number e is,
          )
      by (Some x) is =
          more (items ++ x.0 ∷ []) x.1 (at + position_or_len is_newline (drop at text) + 1) (line + 1) (omega arith)
          (goes_on text items place at (position_or_len is_newline (drop at text)) line (drop at text) refl refl within
          r.within r.fit r.leads r.cut r.number x.0 x.1 (items ++ x.0 ∷ []) e is refl)

  walk_step : Walked text
  walk_step = by (same_or_not (position_or_len is_newline (drop at text)) (length (drop at text)))
    where
      by : (position_or_len is_newline (drop at text) ≡ length (drop at text))
          ⊎ (position_or_len is_newline (drop at text) ≢ length (drop at text)) → Walked text
      by (inl e) = ends e (same_or_not (position_or_len is_newline (drop at text)) 0) (is_last place)
      by (inr e) = goes e (step_of place (take (position_or_len is_newline (drop at text)) (drop at text)))

walk_from : (left : ℕ) (text : List ℕ) (items : List Item) (place : Place) (at line : ℕ) → length text ≤ at + left
    → ReadSoFar text items place at line → Walked text
walk_from zero text items place at line l r =
    walk_step text items place at line r (λ xs q next k above s. absurd (omega (arith, l, above, s.within)))
walk_from (suc left) text items place at line l r =
    walk_step text items place at line r (λ xs q next k above s. walk_from left text xs q next k (omega (arith, l, above)) s)

walked : (text : List ℕ) → Walked text
walked text = walk_from (length text) text [] First 0 1 (omega arith) (record {
  within = omega arith;
  fit = All-nil ItemFits;
  leads = refl;
  cut = refl;
  number = refl;
})

pub one_of_both : TextOrRefusal
one_of_both text = by (walked text)
  where
    by : Walked text → IsText text ⊎ ((n : ℕ) × IsFirstWithoutForm text n)
    by (inl (items, a)) =
        let read = read_is text items a in
        inl (record { code = code_of_items items; written = read.1; text = sym read.0 })
    by (inr (n, s)) = inr (n, refused s.before s.place s.fit s.leads text n s.tail s.cut s.number s.stops)
