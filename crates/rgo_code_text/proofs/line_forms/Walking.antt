-- Lines of a text, read one after the other.
use Rattle.std.proofs.Common.{◌≡◌, ◌≢◌, inl, inr, ℕ, ◌+◌, ◌<◌, ◌≤◌, ◌==◌, true≢false, Bool, List, [], ◌∷◌, ◌++◌, length, take, drop, get_or, Option, Some, None, refl, sym, ap, subst, ◌∙◌, arith, append-nil, append_assoc, length-take, length-drop}
use Rattle.std.specs.List.{All, position_or_len, before_first, after_first}
use Rattle.std.proofs.lemmas.Bool.Decides.{Decides-eqb}
use Rattle.std.proofs.lemmas.List.{drop-drop, take_all, get_or-take, length_push}
use Rattle.std.proofs.lemmas.List.Elements.{All-push}
use Rattle.std.proofs.lemmas.List.Sums.{split_at_first, passes_at_first, fails_before_first}
use Rattle.rgo_code_text.specs.declared.places.Place.{Place}
use Rattle.rgo_code_text.specs.declared.places.Place.TheVariants.{First}
use Rattle.rgo_code_text.specs.Forms.{IsLine}
use Rattle.rgo_code_text.specs.Items.{Item, ItemFits, item_words, item_line, place_after_item, place_after_items, items_text}
use Rattle.rgo_code_text.specs.Order.{IsLast}
use Rattle.rgo_code_words.specs.Readers.{on_some}
use Rattle.rgo_code_printing.specs.Text.{line}
use Rattle.rgo_code_text.specs.Walk.{AreItems, HasNoItem, StepIs, StopsAt}

abbrev pub is_newline : ℕ → Bool
is_newline b = b == 10

-- the bytes before the first newline, and what follows it
pub first_line : (rest : List ℕ) → position_or_len is_newline rest < length rest
    → rest ≡ take (position_or_len is_newline rest) rest ++ 10 ∷ drop (position_or_len is_newline rest + 1) rest
first_line rest l =
    split_at_first is_newline rest 0 l
    ∙ ap (λ b. before_first is_newline rest ++ b ∷ after_first is_newline rest)
    ((Decides-eqb (get_or rest (position_or_len is_newline rest) 0) 10).0 (passes_at_first is_newline rest 0 l))

pub items_more : (xs : List Item) (x : Item) → items_text (xs ++ x ∷ []) ≡ items_text xs ++ (item_line x ++ 10 ∷ [])
items_more [] x = append-nil (line (item_words x))
items_more (y ∷ xs) x =
    ap (λ t. line (item_words y) ++ t) (items_more xs x)
    ∙ sym (append_assoc (line (item_words y)) (items_text xs) (item_line x ++ 10 ∷ []))

pub places_more : (xs : List Item) (x : Item) (p : Place)
    → place_after_items (xs ++ x ∷ []) p ≡ on_some (place_after_items xs p) (λ q. place_after_item q x)
places_more [] x p = last (place_after_item p x)
  where
    last : (o : Option Place) → on_some o (place_after_items []) ≡ o
    last None = refl
    last (Some q) = refl
places_more (y ∷ xs) x p = by (place_after_item p y) (places_more xs x)
  where
    by : (o : Option Place) → ((q : Place) → place_after_items (xs ++ x ∷ []) q ≡ on_some (place_after_items xs q) (λ r. place_after_item r x))
        → on_some o (place_after_items (xs ++ x ∷ [])) ≡ on_some (on_some o (place_after_items xs)) (λ r. place_after_item r x)
    by None more = refl
    by (Some q) more = more q

-- one more line is taken
pub taken_more : (text : List ℕ) (xs : List Item) (x : Item) (at n : ℕ) → text ≡ items_text xs ++ drop at text
    → position_or_len is_newline (drop at text) ≡ n → n < length (drop at text) → take n (drop at text) ≡ item_line x
    → text ≡ items_text (xs ++ x ∷ []) ++ drop (at + n + 1) text
taken_more text xs x at n cut e l is =
    let rest = drop at text in
    let whole : rest ≡ item_line x ++ 10 ∷ drop (at + n + 1) text =
    subst (λ m. m < length rest → rest ≡ take m rest ++ 10 ∷ drop (m + 1) rest) e (first_line rest) l
    ∙ ap (λ t. t ++ 10 ∷ drop (n + 1) rest) is
    ∙ ap (λ t. item_line x ++ 10 ∷ t) (drop-drop (n + 1) at text ∙ ap (λ m. drop m text) (omega arith)) in
    cut ∙ ap (λ t. items_text xs ++ t) whole
    ∙ ap (λ t. items_text xs ++ t) (sym (append_assoc (item_line x) (10 ∷ []) (drop (at + n + 1) text)))
    ∙ sym (append_assoc (items_text xs) (item_line x ++ 10 ∷ []) (drop (at + n + 1) text))
    ∙ ap (λ t. t ++ drop (at + n + 1) text) (sym (items_more xs x))

-- what is read of a text
pub record ReadSoFar (text : List ℕ) (items : List Item) (place : Place) (at line : ℕ) : Type 0 where
  pub within : at ≤ length text
  pub fit : All ItemFits items
  pub leads : place_after_items items First ≡ Some place
  pub cut : text ≡ items_text items ++ drop at text
  pub number : length items + 1 ≡ line

-- ---- lines without a newline

line_front : (bytes : List ℕ) (n : ℕ) → n ≡ position_or_len is_newline bytes → n ≤ length bytes → IsLine (take n bytes)
line_front bytes n e l c =
    let less : c.0 < n = omega (arith, c.1, length-take n bytes, l) in
    let here : get_or bytes c.0 10 ≡ 10 = sym (get_or-take n bytes c.0 10 less) ∙ c.2 in
    true≢false (sym ((Decides-eqb (get_or bytes c.0 10) 10).1 here) ∙ fails_before_first is_newline bytes c.0 10 (omega (arith, less, e)))

line_end : (bytes : List ℕ) → position_or_len is_newline bytes ≡ length bytes → IsLine bytes
line_end bytes e =
    subst IsLine (take_all (length bytes) bytes (omega arith)) (line_front bytes (length bytes) (sym e) (omega arith))

-- ---- where reading stops, or continues

module _ (text : List ℕ) (items : List Item) (place : Place) (at n line : ℕ) (rest : List ℕ) (whole : rest ≡ drop at text)
    (first : n ≡ position_or_len is_newline rest) (within : n ≤ length rest) (inside : at ≤ length text)
    (fit : All ItemFits items) (leads : place_after_items items First ≡ Some place) (cut : text ≡ items_text items ++ drop at text)
    (number : length items + 1 ≡ line) where
  rest_cut : text ≡ items_text items ++ rest
  rest_cut = cut ∙ ap (λ t. items_text items ++ t) (sym whole)

  -- the text ends here, without a newline or before its time
  pub ends_here : n ≡ length rest → (n ≡ 0 → ¬ (IsLast place)) → StopsAt text line
  ends_here l early = record {
    before = items;
    place = place;
    tail = rest;
    fit = fit;
    leads = leads;
    cut = rest_cut;
    number = number;
    stops = inr (record { line = line_end rest (sym first ∙ l); early = λ e. early (l ∙ ap length e) });
  }

  -- the line has no form in its place
  pub stops_here : n ≢ length rest → HasNoItem place (take n rest) → StopsAt text line
  stops_here l none =
      let less : n < length rest = omega (arith, l, within) in
      record {
        before = items;
        place = place;
        tail = rest;
        fit = fit;
        leads = leads;
        cut = rest_cut;
        number = number;
        stops = inl (record {
          bytes = take n rest;
          more = drop (n + 1) rest;
          line = line_front rest n first within;
          cut = subst (λ m. m < length rest → rest ≡ take m rest ++ 10 ∷ drop (m + 1) rest) (sym first) (first_line rest) less;
          none = none;
        });
      }

  -- the text ends where it may
  pub all_read : n ≡ length rest → n ≡ 0 → IsLast place → AreItems text items
  all_read l z last = record {
    place = place;
    text_is = rest_cut ∙ ap (λ t. items_text items ++ t) (nothing rest (sym l ∙ z)) ∙ append-nil (items_text items);
    fit = fit;
    leads = leads;
    last = last;
  }
    where
      nothing : (bytes : List ℕ) → length bytes ≡ 0 → bytes ≡ []
      nothing [] e = refl
      nothing (b ∷ bytes) e = absurd (omega (arith, e))

  -- one more line
  pub goes_on : (x : Item) (next : Place) (more : List Item) → n ≢ length rest → StepIs place (take n rest) (Some (x, next))
      → more ≡ items ++ x ∷ [] → ReadSoFar text more next (at + n + 1) (line + 1)
  goes_on x next more l s m =
      let less : n < length rest = omega (arith, l, within) in
      subst (λ xs. ReadSoFar text xs next (at + n + 1) (line + 1)) (sym m) (record {
        within = omega (arith, less, ap length whole, length-drop at text, inside);
        fit = All-push ItemFits items x fit s.1;
        leads = places_more items x First ∙ ap (λ o. on_some o (λ q. place_after_item q x)) leads ∙ s.2;
        cut = taken_more text items x at n cut (ap (position_or_len is_newline) (sym whole) ∙ sym first)
            (subst (λ r. n < length r) whole less) (ap (take n) (sym whole) ∙ s.0);
        number = omega (arith, length_push items x, number);
      })
