-- No two codes have one text, and a text is refused at the first line that no text of code continues with. The refusal is proved for
-- lines in their places first, and then for all code: after each place some lines complete a text.
use Rattle.std.proofs.Common.{◌≡◌, ◌↔◌, ◌⊎◌, inl, inr, ℕ, ◌+◌, ◌≤◌, Result, Err, MatchResult, List, [], ◌∷◌, ◌++◌, map, length, Option, Some, None, refl, sym, ap, subst, ◌∙◌, arith, append_assoc, length-append}
use Rattle.std.specs.List.{All, Contains}
use Rattle.std.specs.Option.{IsSome}
use Rattle.std.proofs.lemmas.List.{map-append, length-map, get_or_at}
use Rattle.std.proofs.lemmas.List.Elements.{All-nil, All-cons, All-head, All-tail, All-append}
use Rattle.rgo_code.specs.Code.{Code}
use Rattle.rgo_code_text.specs.declared.places.Place.{Place}
use Rattle.rgo_code_text.specs.declared.places.Place.TheVariants.{First, Structs, Globals, Functions, Slots, Body}
use Rattle.rgo_code_text.specs.declared.refusals.ReadError.{ReadError}
use Rattle.rgo_code_text.specs.declared.refusals.ReadError.TheVariants as error
use Rattle.rgo_code_text.specs.Building.{code_of_items}
use Rattle.rgo_code_text.specs.Forms.{IsLine, ended_lines, BeginsCode, HasNoForm, EndsEarly, IsFirstWithoutForm}
use Rattle.rgo_code_text.specs.Items.{Item, Head, Entry, End, ItemFits, item_kind, item_line, items_text, place_after_item, place_after_items}
use Rattle.rgo_code_text.specs.Laws.{OneText}
use Rattle.rgo_code_text.specs.Order.{after_kinds, IsLast}
use Rattle.rgo_code_text.specs.Sizes.{IsTooLongText}
use Rattle.rgo_code_words.specs.Readers.{on_some}
use Rattle.rgo_code_printing.specs.Text.{text_of}
use Rattle.rgo_code_text.specs.Walk.{AreItems, Stops, CodeTextEnds, StopsIn, RefusesCodeText}
use Rattle.rgo_code_text.specs.Written.{HasCodeText}
use Rattle.rgo_code_words.specs.Worded.{AreRegions}
use Rattle.rgo_code_text.proofs.code_of_lines.LinesOfCode.{after_both}
use Rattle.rgo_code_words.proofs.ListFacts.{back_all, flat_append}
use Rattle.rgo_code_text.proofs.code_of_lines.Making.{made}
use Rattle.rgo_code_text.proofs.line_forms.NewLines.{line_lacks, is_line, lacks_newline, begins_with, first_line_is, texts_one, text_cons}
use Rattle.rgo_code_words.proofs.Options.{some_same, not_none}
use Rattle.rgo_code_text.proofs.code_of_lines.Unmaking.{lined}

-- ---- no two codes have one text

pub no_two : OneText
no_two code other w v e =
    let a = lined code w in
    let b = lined other v in
    let same = texts_one a.items b.items a.fit b.fit (sym a.text ∙ e ∙ b.text) in
    sym a.again ∙ ap code_of_items same ∙ b.again

-- ---- what was read is the text of code

pub read_is : (text : List ℕ) (items : List Item) → AreItems text items → (text ≡ text_of (code_of_items items)) × HasCodeText (code_of_items items)
read_is text items a =
    let m = made items a.place a.fit a.leads a.last in
    (a.text_is ∙ sym m.text, m.written)

-- ---- lines that begin a text

ended_is : (xs : List Item) → ended_lines (map item_line xs) ≡ items_text xs
ended_is [] = refl
ended_is (x ∷ xs) = ap (λ t. (item_line x ++ 10 ∷ []) ++ t) (ended_is xs)

lines_are : (xs : List Item) → All ItemFits xs → All IsLine (map item_line xs)
lines_are [] f = All-nil IsLine
lines_are (x ∷ xs) f =
    All-cons IsLine (item_line x) (map item_line xs) (is_line (item_line x) (line_lacks x (All-head ItemFits x xs f)))
    (lines_are xs (All-tail ItemFits x xs f))

-- lines after which a text may end
record Ending (p : Place) : Type 0 where
  pub items : List Item
  pub fit : All ItemFits items
  pub place : Place
  pub leads : place_after_items items p ≡ Some place
  pub last : IsLast place

no_regions : AreRegions []
no_regions = (λ k l. absurd (omega (arith, l)), All-nil _)

ending : (p : Place) → Ending p
ending First = record { items = Head ∷ []; fit = All-cons ItemFits Head [] tt (All-nil ItemFits); place = Structs; leads = refl; last = tt }
ending Structs = record { items = []; fit = All-nil ItemFits; place = Structs; leads = refl; last = tt }
ending Globals = record { items = []; fit = All-nil ItemFits; place = Globals; leads = refl; last = tt }
ending Functions = record { items = []; fit = All-nil ItemFits; place = Functions; leads = refl; last = tt }
ending Slots = record {
  items = Entry [] ∷ End ∷ [];
  fit = All-cons ItemFits (Entry []) (End ∷ []) no_regions (All-cons ItemFits End [] tt (All-nil ItemFits));
  place = Functions;
  leads = refl;
  last = tt;
}
ending (Body i) = record {
  items = End ∷ [];
  fit = All-cons ItemFits End [] tt (All-nil ItemFits);
  place = Functions;
  leads = refl;
  last = tt;
}

after_append : (xs ys : List Item) (p : Place) → place_after_items (xs ++ ys) p ≡ on_some (place_after_items xs p) (place_after_items ys)
after_append xs ys p =
    ap (λ ks. after_kinds ks p) (map-append item_kind xs ys) ∙ after_both (map item_kind xs) (map item_kind ys) p

text_append : (xs ys : List Item) → items_text (xs ++ ys) ≡ items_text xs ++ items_text ys
text_append xs ys = flat_append _ xs ys

-- lines that go on from a place
record GoesOn (p : Place) (rest : List ℕ) : Type 0 where
  pub more : List Item
  pub fit : All ItemFits more
  pub text : items_text more ≡ rest
  pub last_place : Place
  pub leads : place_after_items more p ≡ Some last_place
  pub last : IsLast last_place

goes : (x : Item) (more : List Item) (p q : Place) → place_after_items (x ∷ more) p ≡ Some q → IsSome (place_after_item p x)
goes x more p q e = by (place_after_item p x) e
  where
    by : (o : Option Place) → on_some o (place_after_items more) ≡ Some q → IsSome o
    by None r = absurd (not_none q r)
    by (Some r) s = refl

contains : (a b : List ℕ) → Contains (a ++ 10 ∷ b) 10
contains a b =
    (length a, omega (arith, length-append a (10 ∷ b)), get_or_at a 10 b 10 (length a) refl)

module _ (before : List Item) (place : Place) (fit : All ItemFits before) (leads : place_after_items before First ≡ Some place) where
  begins : BeginsCode (ended_lines (map item_line before))
  begins =
      let end = ending place in
      let all = before ++ end.items in
      let m = made all end.place (All-append ItemFits before end.items fit end.fit)
      (after_append before end.items First ∙ ap (λ o. on_some o (place_after_items end.items)) leads ∙ end.leads) end.last in
      record {
        code = code_of_items all;
        rest = items_text end.items;
        written = m.written;
        text = m.text ∙ text_append before end.items ∙ ap (λ t. t ++ items_text end.items) (sym (ended_is before));
      }

  go_on : (code : Code) (rest : List ℕ) → HasCodeText code → text_of code ≡ ended_lines (map item_line before) ++ rest → GoesOn place rest
  go_on code rest w e =
      let l = lined code w in
      let b = begins_with before l.items rest fit l.fit (sym l.text ∙ e ∙ ap (λ t. t ++ rest) (ended_is before)) in
      record {
        more = b.more;
        fit = back_all ItemFits before b.more (subst (All ItemFits) b.are l.fit);
        text = b.text;
        last_place = l.place;
        leads = sym (ap (λ o. on_some o (place_after_items b.more)) leads) ∙ sym (after_append before b.more First)
            ∙ ap (λ xs. place_after_items xs First) (sym b.are) ∙ l.leads;
        last = l.last;
      }

  -- no text continues with this line
  no_form : (tail : List ℕ) → Stops place tail → HasNoForm (ended_lines (map item_line before)) tail
  no_form tail s = record {
    bytes = s.bytes;
    more = s.more;
    line = s.line;
    cut = s.cut;
    stops = λ b.
        let text : text_of b.code ≡ ended_lines (map item_line before) ++ (s.bytes ++ 10 ∷ b.rest) =
        b.text ∙ append_assoc (ended_lines (map item_line before)) (s.bytes ++ 10 ∷ []) b.rest
        ∙ ap (λ t. ended_lines (map item_line before) ++ t) (append_assoc s.bytes (10 ∷ []) b.rest) in
        let g = go_on b.code (s.bytes ++ 10 ∷ b.rest) b.written text in
        let f = first_line_is g.more s.bytes b.rest g.fit (lacks_newline s.bytes s.line) g.text in
        let fits : ItemFits f.item = All-head ItemFits f.item f.others (subst (All ItemFits) f.are g.fit) in
        s.none f.item fits (goes f.item f.others place g.last_place (ap (λ xs. place_after_items xs place) (sym f.are) ∙ g.leads)) f.line;
  }

  -- the text ends before its time
  early : (tail : List ℕ) → CodeTextEnds place tail → EndsEarly (ended_lines (map item_line before)) tail
  early tail e = record {
    line = e.line;
    stops = λ t.
        let g = go_on t.code tail t.written t.text in
        ends g.more g.text g.last_place g.leads g.last;
  }
    where
      ends : (more : List Item) → items_text more ≡ tail → (q : Place) → place_after_items more place ≡ Some q → IsLast q → ⊥
      ends [] t q l last = e.early (sym t) (subst IsLast (sym (some_same place q l)) last)
      ends (x ∷ more) t q l last =
          e.line (subst (λ bytes. Contains bytes 10) (sym (text_cons x more) ∙ t) (contains (item_line x) (items_text more)))

  pub refused : (text : List ℕ) (n : ℕ) (tail : List ℕ) → text ≡ items_text before ++ tail → length before + 1 ≡ n
      → (Stops place tail ⊎ CodeTextEnds place tail) → IsFirstWithoutForm text n
  refused text n tail cut number stops = record {
    before = map item_line before;
    tail = tail;
    lines = lines_are before fit;
    number = ap (λ k. k + 1) (length-map before item_line) ∙ number;
    cut = cut ∙ ap (λ t. t ++ tail) (sym (ended_is before));
    begins = begins;
    stops = by stops;
  }
    where
      by : (Stops place tail ⊎ CodeTextEnds place tail)
          → HasNoForm (ended_lines (map item_line before)) tail ⊎ EndsEarly (ended_lines (map item_line before)) tail
      by (inl s) = inl (no_form tail s)
      by (inr e) = inr (early tail e)

pub refuses : (text : List ℕ) (e : ReadError) → StopsIn text e → RefusesCodeText text e
refuses text error.NoMemory s = tt
refuses text error.TooLarge s = absurd s
refuses text (error.Refused r) s = refused s.before s.place s.fit s.leads text r.line s.tail s.cut s.number s.stops

-- what is said of a text that is not too large, also says when the error is that it is too large: never
pub too_large_exactly : (text : List ℕ) (r : Result Code ReadError)
    → MatchResult r (λ code. (text ≡ text_of code) × HasCodeText code) (RefusesCodeText text) → length text ≤ 4294967293
    → (r ≡ Err error.TooLarge) ↔ IsTooLongText text
too_large_exactly text r read few = (
  λ e. subst (λ q. MatchResult q (λ code. (text ≡ text_of code) × HasCodeText code) (RefusesCodeText text)) e read,
  λ large. absurd (omega (arith, large, few)),
)
