-- A journal, read line by line.
use Rattle.std.proofs.Common.{◌≡◌, ℕ, ◌+◌, ◌-◌, ◌<◌, List, [], ◌∷◌, ◌++◌, length, take, Option, None, Some, refl, sym, ap, ◌∙◌, arith, append_assoc, append-nil, length-append}
use Rattle.std.specs.Prelude.{All}
use Rattle.std.proofs.lemmas.List.{take_at}
use Rattle.std.proofs.lemmas.List.Elements.{All-nil, All-push}
use denote.Ref.{Bor}
use Rattle.rgo_code_words.specs.Readers.{bytes_now as seen_rest}
use Rattle.rgo_code_words.proofs.Options.{not_none}
use Rattle.rgo_journal.specs.declared.picks.TacPick.{TacPick}
use Rattle.rgo_journal.specs.declared.picks.TacPick.TheVariants.{One, Meet, Case, CaseMeet}
use Rattle.rgo_journal.specs.Forms.{HasNoFirst, HasNoPick}
use Rattle.rgo_journal.specs.Reading.{after_front, read_pick, seen_one}
use Rattle.rgo_journal.specs.Text.{PickFits, IsJournal, first_line, journal, last_line, pick_line, pick_lines}
use Rattle.rgo_journal.proofs.Fronts.{after_back, after_sound}
use Rattle.rgo_journal.proofs.Lines.{pick_back, pick_sound}

-- the picks whose lines have been read, and what follows them
pub record ReadSoFar (bytes : List ℕ) (picks : List TacPick) (rest : List ℕ) : Type 0 where
  pub fit : All PickFits picks
  pub cut : bytes ≡ first_line ++ (pick_lines picks ++ rest)

pub begins : (bytes rest : List ℕ) → after_front first_line bytes ≡ Some rest → ReadSoFar bytes [] rest
begins bytes rest e = record { fit = All-nil PickFits; cut = after_sound first_line bytes rest e }

pub no_first : (bytes : List ℕ) → after_front first_line bytes ≡ None → HasNoFirst bytes
no_first bytes e s = not_none s.0 (sym e ∙ ap (after_front first_line) s.1 ∙ after_back first_line s.0)

one_more : (picks : List TacPick) (p : TacPick) (next : List ℕ)
    → pick_lines picks ++ (pick_line p ++ next) ≡ pick_lines (picks ++ p ∷ []) ++ next
one_more [] p next = ap (λ t. t ++ next) (sym (append-nil (pick_line p)))
one_more (q ∷ picks) p next =
    append_assoc (pick_line q) (pick_lines picks) (pick_line p ++ next)
    ∙ ap (λ t. pick_line q ++ t) (one_more picks p next)
    ∙ sym (append_assoc (pick_line q) (pick_lines (picks ++ p ∷ [])) next)

some_bytes : (p : TacPick) (rest : List ℕ) → length rest < length (pick_line p ++ rest)
some_bytes p rest = omega (arith, length-append (pick_line p) rest, not_empty p)
  where
    not_empty : (p : TacPick) → 0 < length (pick_line p)
    not_empty (One g) = omega arith
    not_empty (Meet r s) = omega arith
    not_empty (Case g k) = omega arith
    not_empty (CaseMeet g k s) = omega arith

pub no_more : (p : TacPick) (rest : List ℕ) → pick_line p ++ rest ≡ [] → ⊥
no_more p rest e = let none : length (pick_line p ++ rest) ≡ 0 = ap length e in omega (arith, some_bytes p rest, none)

pub shorter : (rest : List ℕ) (p : TacPick) (next : List ℕ) → read_pick rest ≡ Some (p, next) → length next < length rest
shorter rest p next e =
    omega (arith, some_bytes p next, ap length (pick_sound rest p next e).cut)

pub goes_on : (bytes : List ℕ) (picks more : List TacPick) (rest : List ℕ) (p : TacPick) (next : List ℕ) → ReadSoFar bytes picks rest
    → read_pick rest ≡ Some (p, next) → more ≡ picks ++ p ∷ [] → ReadSoFar bytes more next
goes_on bytes picks more rest p next s e pushed =
    let is = pick_sound rest p next e in
    let longer : ReadSoFar bytes (picks ++ p ∷ []) next = record {
      fit = All-push PickFits picks p s.fit is.fits;
      cut = s.cut ∙ ap (λ t. first_line ++ (pick_lines picks ++ t)) is.cut ∙ ap (λ t. first_line ++ t) (one_more picks p next);
    } in
    rw pushed longer

in_one : (picks : List TacPick) (text : List ℕ)
    → first_line ++ (pick_lines picks ++ (last_line ++ text)) ≡ journal picks ++ text
in_one picks text =
    sym (append_assoc first_line (pick_lines picks ++ last_line) text
    ∙ ap (λ t. first_line ++ t) (append_assoc (pick_lines picks) last_line text))

pub cut_of : (bytes : List ℕ) (picks : List TacPick) (text : List ℕ) → bytes ≡ journal picks ++ text
    → bytes ≡ first_line ++ (pick_lines picks ++ (last_line ++ text))
cut_of bytes picks text e = e ∙ sym (in_one picks text)

pub ends : (bytes : List ℕ) (picks : List TacPick) (rest text : List ℕ) → ReadSoFar bytes picks rest
    → after_front last_line rest ≡ Some text → IsJournal bytes picks (length bytes - length text)
ends bytes picks rest text s e =
    let whole : bytes ≡ journal picks ++ text =
    s.cut ∙ ap (λ t. first_line ++ (pick_lines picks ++ t)) (after_sound last_line rest text e) ∙ in_one picks text in
    let len : length (journal picks) ≡ length bytes - length text =
    omega (arith, ap length whole, length-append (journal picks) text) in
    record {
      fit = s.fit;
      within = omega arith;
      text_is = ap (take (length bytes - length text)) whole ∙ take_at (journal picks) text (length bytes - length text) len;
    }

-- nothing was read
pub none_seen : {A : Type 0} (o : Option (A × Bor (List ℕ))) (r : Option (A × List ℕ)) → seen_one o ≡ r → o ≡ None → r ≡ None
none_seen {A} o r e n = sym e ∙ ap (seen_one {A = A}) n

pub none_after : (o : Option (Bor (List ℕ))) (r : Option (List ℕ)) → seen_rest o ≡ r
    → ((x : Bor (List ℕ)) → o ≡ Some x → ⊥) → r ≡ None
none_after None r e n = sym e
none_after (Some x) r e n = absurd (n x refl)

pub stops : (bytes : List ℕ) (picks : List TacPick) (rest : List ℕ) (line : ℕ) → ReadSoFar bytes picks rest
    → after_front last_line rest ≡ None → read_pick rest ≡ None → line ≡ length picks + 2 → HasNoPick bytes line
stops bytes picks rest line s l n number = record {
  before = picks;
  tail = rest;
  fit = s.fit;
  cut = s.cut;
  number = number;
  no_pick = λ p f t. not_none (p, t.0) (sym n ∙ ap read_pick t.1 ∙ pick_back p t.0 f);
  no_last = λ t. not_none t.0 (sym l ∙ ap (after_front last_line) t.1 ∙ after_back last_line t.0);
}
