-- What follows `print` is that of an operation, or of none: the front piece and what follows it are decided one after the other.
use Rattle.std.proofs.Common.{◌≡◌, ◌≢◌, ◌⊎◌, inl, inr, ℕ, zero, suc, ◌+◌, ◌-◌, ◌<◌, ◌≤◌, ◌^◌, ◌==◌, Bool, true, false, List, [], ◌∷◌, ◌++◌, length, take, drop, get_or, Option, Some, None, refl, sym, ap, ◌∙◌, arith, codes, length-drop}
use Rattle.std.specs.Bool.{Decides}
use Rattle.std.specs.List.{position_or_len}
use Rattle.std.proofs.lemmas.Bool.{cases_lt}
use Rattle.std.proofs.lemmas.Bool.Decides.{Decides-eqb, not_from_Decides}
use Rattle.std.proofs.lemmas.List.{drop-drop, drop_all}
use Rattle.std.proofs.lemmas.List.Elements.{All-nil}
use Rattle.rgo_typed.specs.declared.statements.Piece.{Piece}
use Rattle.rgo_typed.specs.declared.statements.Piece.TheVariants as piece
use Rattle.rgo_code.specs.Code.{Print}
use Rattle.rgo_code_words.specs.Cuts.{is_space}
use Rattle.rgo_code_text.specs.Ops.{NamedOp, op_text, NamedOpFits, LastWord}
use Rattle.rgo_code_words.specs.Pieces.{string_byte, IsStringInside, Fronts, NoneFronts, ArePieces, value_list}
use Rattle.rgo_code_words.specs.Readers.{IsReadFromBytes, read_regions, read_variable}
use Rattle.rgo_code_words.proofs.ListFacts.{drop_here}
use Rattle.rgo_code_words.proofs.PieceFronts.{Inside, inside_more, byte_some, is_comma, string_fronts, string_none, variable_fronts, variable_none}
use Rattle.rgo_code_words.proofs.PieceLists.{Leads, leads_start, leads_none, leads_end, leads_wrong, leads_more}
use Rattle.rgo_code_text.proofs.op_lines.PrintWords.{space_here, print_none, print_plain, print_pieces, print_wrong}

-- two numbers are the same, or they are not
pub same_or_not : (a b : ℕ) → (a ≡ b) ⊎ (a ≢ b)
same_or_not a b = by (a == b) (Decides-eqb a b)
  where
    by : (t : Bool) → Decides t (a ≡ b) → (a ≡ b) ⊎ (a ≢ b)
    by true d = inl (d.0 refl)
    by false d = inr (not_from_Decides false d refl)

pub first_within : (test : ℕ → Bool) (bytes : List ℕ) → position_or_len test bytes ≤ length bytes
first_within test [] = omega arith
first_within test (b ∷ bytes) = by (test b) (first_within test bytes) refl
  where
    by : (t : Bool) → position_or_len test bytes ≤ length bytes → test b ≡ t
        → position_or_len test (b ∷ bytes) ≤ length (b ∷ bytes)
    by true less e = rw e (omega arith)
    by false less e = rw e (omega (arith, less))

-- ---- strings

record InsideOf (bytes : List ℕ) : Type 0 where
  inside : List ℕ
  len : ℕ
  is : IsStringInside bytes inside len

-- one byte more, or none
inside_step : (bytes xs : List ℕ) (at : ℕ) → Inside bytes xs at → (r : Option (ℕ × ℕ)) → string_byte (drop at bytes) ≡ r
    → ((ys : List ℕ) (n : ℕ) → 0 < n → at + n ≤ length bytes → Inside bytes ys (at + n) → InsideOf bytes) → InsideOf bytes
inside_step bytes xs at i None e more =
    record { inside = xs; len = at; is = record { cut = i.cut; within = i.within; fits = i.fits; stops = e } }
inside_step bytes xs at i (Some r) e more =
    let b = byte_some (drop at bytes) r e in
    more (xs ++ r.0 ∷ []) r.1 b.0 (omega (arith, b.1, length-drop at bytes, i.within))
    (inside_more bytes xs (xs ++ r.0 ∷ []) (drop at bytes) at r refl e refl i)

inside_from : (left : ℕ) (bytes xs : List ℕ) (at : ℕ) → length bytes ≤ at + left → Inside bytes xs at → InsideOf bytes
inside_from zero bytes xs at l i =
    inside_step bytes xs at i (string_byte (drop at bytes)) refl (λ ys n some within j. absurd (omega (arith, l, some, within)))
inside_from (suc left) bytes xs at l i =
    inside_step bytes xs at i (string_byte (drop at bytes)) refl
    (λ ys n some within j. inside_from left bytes ys (at + n) (omega (arith, l, some)) j)

inside_of : (bytes : List ℕ) → InsideOf bytes
inside_of bytes =
    inside_from (length bytes) bytes [] 0 (omega arith) (record { within = omega arith; cut = refl; fits = All-nil (λ b. b < 2 ^ 8) })

-- ---- the piece at the front

record FrontOf (bytes : List ℕ) : Type 0 where
  piece : Piece
  value : Option ℕ
  len : ℕ
  is : Fronts bytes piece value len

front_of : (bytes : List ℕ) → FrontOf bytes ⊎ NoneFronts bytes
front_of bytes = by (same_or_not (get_or bytes 0 0) 34)
  where
    string : get_or bytes 0 0 ≡ 34 → FrontOf bytes ⊎ NoneFronts bytes
    string quote = ends (inside_of (drop 1 bytes))
      where
        ends : InsideOf (drop 1 bytes) → FrontOf bytes ⊎ NoneFronts bytes
        ends i = closed (same_or_not (get_or bytes (1 + i.len) 0) 34)
          where
            closed : (get_or bytes (1 + i.len) 0 ≡ 34) ⊎ (get_or bytes (1 + i.len) 0 ≢ 34) → FrontOf bytes ⊎ NoneFronts bytes
            closed (inl e) = inl (record {
              piece = piece.Text i.inside;
              value = None;
              len = i.len + 2;
              is = string_fronts bytes i.inside i.len quote i.is e;
            })
            closed (inr e) = inr (string_none bytes i.inside i.len quote i.is e)

    variable : get_or bytes 0 0 ≢ 34 → (v : Option ℕ) → read_variable (take (position_or_len is_comma bytes) bytes) ≡ v
        → FrontOf bytes ⊎ NoneFronts bytes
    variable other None e =
        inr (variable_none bytes (position_or_len is_comma bytes) refl (first_within is_comma bytes) other e)
    variable other (Some v) e = inl (record {
      piece = piece.Value;
      value = Some v;
      len = position_or_len is_comma bytes;
      is = variable_fronts bytes (position_or_len is_comma bytes) refl (first_within is_comma bytes) v e;
    })

    by : (get_or bytes 0 0 ≡ 34) ⊎ (get_or bytes 0 0 ≢ 34) → FrontOf bytes ⊎ NoneFronts bytes
    by (inl quote) = string quote
    by (inr other) = variable other (read_variable (take (position_or_len is_comma bytes) bytes)) refl

-- ---- pieces

record PiecesOf (list : List ℕ) : Type 0 where
  what : Option (List Piece × List ℕ)
  is : ArePieces list what

module _ (list : List ℕ) (ps : List Piece) (fs : List ℕ) (at : ℕ) (l : Leads list ps fs at) (within : at ≤ length list)
    (more : (qs : List Piece) (gs : List ℕ) (next : ℕ) → at < next → next ≤ length list → Leads list qs gs next → PiecesOf list)
  where
    -- what follows a piece
    follows : (f : FrontOf (drop at list)) → (at + f.len ≡ length list) ⊎ (at + f.len ≢ length list) → PiecesOf list
    follows f (inl e) = record {
      what = Some (ps ++ f.piece ∷ [], fs ++ value_list f.value);
      is = leads_end list ps fs at l f.piece f.value f.len f.is
          (drop-drop f.len at list ∙ drop_all (at + f.len) list (omega (arith, e)));
    }
    follows f (inr e) = by (same_or_not (get_or list (at + f.len) 0) 44)
      where
        less : at + f.len < length list
        less = omega (arith, e, f.is.within, length-drop at list, within)

        after : drop f.len (drop at list) ≡ get_or list (at + f.len) 0 ∷ drop (at + f.len + 1) list
        after = drop-drop f.len at list ∙ drop_here list (at + f.len) 0 less

        by : (get_or list (at + f.len) 0 ≡ 44) ⊎ (get_or list (at + f.len) 0 ≢ 44) → PiecesOf list
        by (inl comma) =
            more (ps ++ f.piece ∷ []) (fs ++ value_list f.value) (at + f.len + 1) (omega arith) (omega (arith, less))
            (leads_more list ps fs at l f.piece f.value f.len f.is (drop (at + f.len + 1) list)
            (after ∙ ap (λ b. b ∷ drop (at + f.len + 1) list) comma) refl)
        by (inr other) = record {
          what = None;
          is = leads_wrong list ps fs at l f.piece f.value f.len f.is (λ c. other (sym (ap (λ t. get_or t 0 44) after) ∙ c));
        }

    pieces_step : FrontOf (drop at list) ⊎ NoneFronts (drop at list) → PiecesOf list
    pieces_step (inl f) = follows f (same_or_not (at + f.len) (length list))
    pieces_step (inr none) = record { what = None; is = leads_none list ps fs at l none }

pieces_from : (left : ℕ) (list : List ℕ) (ps : List Piece) (fs : List ℕ) (at : ℕ) → length list ≤ at + left
    → at ≤ length list → Leads list ps fs at → PiecesOf list
pieces_from zero list ps fs at l within i =
    pieces_step list ps fs at i within (λ qs gs next above inner j. absurd (omega (arith, l, above, inner))) (front_of (drop at list))
pieces_from (suc left) list ps fs at l within i =
    pieces_step list ps fs at i within
    (λ qs gs next above inner j. pieces_from left list qs gs next (omega (arith, l, above)) inner j) (front_of (drop at list))

pieces_of : (list : List ℕ) → PiecesOf list
pieces_of list = pieces_from (length list) list [] [] 0 (omega arith) (omega arith) (leads_start list)

-- ---- the last word

record LastOf (bytes : List ℕ) : Type 0 where
  at : ℕ
  is : LastWord bytes at

abbrev IsAfterSpace : List ℕ → ℕ → Type 0
IsAfterSpace bytes at = (at ≡ 0) ⊎ ((0 < at) × (bytes ≡ take (at - 1) bytes ++ 32 ∷ drop at bytes))

last_step : (bytes : List ℕ) (at n : ℕ) → at ≤ length bytes → IsAfterSpace bytes at → n ≡ position_or_len is_space (drop at bytes)
    → (n < length (drop at bytes)) ⊎ (length (drop at bytes) ≤ n)
    → ((next : ℕ) → at < next → next ≤ length bytes → IsAfterSpace bytes next → LastOf bytes) → LastOf bytes
last_step bytes at n within before e (inl less) more =
    more (at + n + 1) (omega arith) (omega (arith, less, length-drop at bytes, within))
    (inr (omega arith, space_here bytes (drop at bytes) at n refl e less))
last_step bytes at n within before e (inr end) more = record {
  at = at;
  is = record {
    within = within;
    before = before;
    last = omega (arith, e, end, first_within is_space (drop at bytes));
  };
}

last_from : (left : ℕ) (bytes : List ℕ) (at : ℕ) → length bytes ≤ at + left → at ≤ length bytes → IsAfterSpace bytes at → LastOf bytes
last_from zero bytes at l within before =
    last_step bytes at (position_or_len is_space (drop at bytes)) within before refl
    (cases_lt (position_or_len is_space (drop at bytes)) (length (drop at bytes)))
    (λ next above inner j. absurd (omega (arith, l, above, inner)))
last_from (suc left) bytes at l within before =
    last_step bytes at (position_or_len is_space (drop at bytes)) within before refl
    (cases_lt (position_or_len is_space (drop at bytes)) (length (drop at bytes)))
    (λ next above inner j. last_from left bytes next (omega (arith, l, above)) inner j)

last_of : (bytes : List ℕ) → LastOf bytes
last_of bytes = last_from (length bytes) bytes 0 (omega arith) (omega arith) (inl refl)

-- ---- prints

pub record PrintOf (bytes : List ℕ) : Type 0 where
  pub what : Option NamedOp
  pub is : IsReadFromBytes NamedOpFits op_text (codes "print " ++ bytes) what

module _ (bytes : List ℕ) (w : LastOf bytes) where
  -- after the pieces
  with_pieces : (removes : List ℕ) → read_regions 45 (drop w.at bytes) ≡ Some removes → 0 < w.at
      → (what : Option (List Piece × List ℕ)) → ArePieces (take (w.at - 1) bytes) what → PrintOf bytes
  with_pieces removes e l None is = record { what = None; is = print_wrong bytes w.at w.is removes e l is }
  with_pieces removes e l (Some x) is = record {
    what = Some (record { op = Print x.0 x.1 removes; name = [] });
    is = print_pieces bytes w.at w.is removes e x.0 x.1 l is;
  }

  with_removes : (removes : List ℕ) → read_regions 45 (drop w.at bytes) ≡ Some removes → (w.at ≡ 0) ⊎ (w.at ≢ 0) → PrintOf bytes
  with_removes removes e (inl z) = record {
    what = Some (record { op = Print [] [] removes; name = [] });
    is = print_plain bytes w.at w.is removes e z;
  }
  with_removes removes e (inr n) =
      let p = pieces_of (take (w.at - 1) bytes) in with_pieces removes e (omega (arith, n)) p.what p.is

  print_by : (r : Option (List ℕ)) → read_regions 45 (drop w.at bytes) ≡ r → PrintOf bytes
  print_by None e = record { what = None; is = print_none bytes w.at w.is e }
  print_by (Some removes) e = with_removes removes e (same_or_not w.at 0)

pub print_of : (bytes : List ℕ) → PrintOf bytes
print_of bytes = let w = last_of bytes in print_by bytes w (read_regions 45 (drop w.at bytes)) refl
