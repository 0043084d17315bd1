-- Pieces with commas between them, read one after the other.
use Rattle.std.proofs.Common.{◌≡◌, ◌≢◌, ◌⊎◌, inl, inr, ℕ, suc, ◌+◌, List, [], ◌∷◌, ◌++◌, length, drop, get_or, Option, Some, None, IfSome, refl, sym, ap, subst, ◌∙◌, arith, append-nil, append_assoc, length-append}
use Rattle.std.specs.List.{All}
use Rattle.std.proofs.lemmas.List.{drop_at}
use Rattle.std.proofs.lemmas.List.Elements.{All-nil, All-cons, All-head, All-tail, All-append}
use Rattle.rgo_typed.specs.declared.statements.Piece.{Piece}
use Rattle.rgo_typed.specs.declared.statements.Piece.TheVariants as piece
use Rattle.rgo_code_words.specs.Pieces.{value_list, IsDelimited, Fronts, NoneFronts, AreListed}
use Rattle.rgo_code_printing.specs.Words.{comma_separated, piece_word, piece_words, value_count}
use Rattle.rgo_code_words.specs.Worded.{AreSmall, IsSmallNumber, PieceFits, printed_value_count}
use Rattle.rgo_code_words.proofs.PieceFronts.{fronts_one}

-- ---- words by the variables that are left

word_later : (p : Piece) (a : ℕ) (from : List ℕ) (n : ℕ) → piece_word p (a ∷ from) (suc n) ≡ piece_word p from n
word_later (piece.Text bytes) a from n = refl
word_later piece.Value a from n = refl

words_later : (pieces : List Piece) (a : ℕ) (from : List ℕ) (n : ℕ)
    → piece_words pieces (a ∷ from) (suc n) ≡ piece_words pieces from n
words_later [] a from n = refl
words_later (p ∷ pieces) a from n =
    let next : suc n + value_count p ≡ suc (n + value_count p) = omega arith in
    ap (λ w. w ∷ piece_words pieces (a ∷ from) (suc n + value_count p)) (word_later p a from n)
    ∙ ap (λ k. piece_word p from n ∷ piece_words pieces (a ∷ from) k) next
    ∙ ap (λ ws. piece_word p from n ∷ ws) (words_later pieces a from (n + value_count p))

words_split : (p : Piece) (value : Option ℕ) (pieces : List Piece) (from : List ℕ)
    → length (value_list value) ≡ value_count p
    → piece_words (p ∷ pieces) (value_list value ++ from) 0 ≡ piece_word p (value_list value) 0 ∷ piece_words pieces from 0
words_split (piece.Text bytes) None pieces from e = refl
words_split (piece.Text bytes) (Some v) pieces from e = absurd (omega (arith, e))
words_split piece.Value None pieces from e = absurd (omega (arith, e))
words_split piece.Value (Some v) pieces from e = ap (λ ws. piece_word piece.Value (v ∷ []) 0 ∷ ws) (words_later pieces v from 0)

-- ---- one more piece at the front

small_list : (value : Option ℕ) → IfSome value IsSmallNumber → AreSmall (value_list value)
small_list None s = All-nil IsSmallNumber
small_list (Some v) s = All-cons IsSmallNumber v [] s (All-nil IsSmallNumber)

values_more : (p : Piece) (value : Option ℕ) (pieces : List Piece) (from : List ℕ)
    → length (value_list value) ≡ value_count p → length from ≡ printed_value_count pieces
    → length (value_list value ++ from) ≡ printed_value_count (p ∷ pieces)
values_more p value pieces from e f = length-append (value_list value) from ∙ ap (λ n. n + length from) e ∙ ap (λ n. value_count p + n) f

listed_more : (w : List ℕ) (p : Piece) (pieces : List Piece) (from : List ℕ)
    → comma_separated (w ∷ piece_words (p ∷ pieces) from 0) ≡ w ++ 44 ∷ comma_separated (piece_words (p ∷ pieces) from 0)
listed_more w p pieces from = refl

not_empty : {A : Type 0} (a : A) (xs : List A) → a ∷ xs ≢ []
not_empty a xs e = cc

pub one_listed : (bytes : List ℕ) (p : Piece) (value : Option ℕ) (n : ℕ) → Fronts bytes p value n → drop n bytes ≡ []
    → AreListed bytes (p ∷ []) (value_list value)
one_listed bytes p value n f e = record {
  text = f.cut ∙ ap (λ t. piece_word p (value_list value) 0 ++ t) e ∙ append-nil (piece_word p (value_list value) 0);
  some = not_empty p [];
  fit = All-cons PieceFits p [] f.fits (All-nil PieceFits);
  values = f.values ∙ omega arith;
  small = small_list value f.small;
}

pub more_listed : (bytes rest : List ℕ) (p : Piece) (value : Option ℕ) (n : ℕ) (pieces : List Piece) (from : List ℕ)
    → Fronts bytes p value n → drop n bytes ≡ 44 ∷ rest → AreListed rest pieces from
    → AreListed bytes (p ∷ pieces) (value_list value ++ from)
more_listed bytes rest p value n [] from f e a = absurd (a.some refl)
more_listed bytes rest p value n (q ∷ pieces) from f e a = record {
  text = f.cut ∙ ap (λ t. piece_word p (value_list value) 0 ++ t) (e ∙ ap (λ t. 44 ∷ t) a.text)
      ∙ sym (ap comma_separated (words_split p value (q ∷ pieces) from f.values));
  some = not_empty p (q ∷ pieces);
  fit = All-cons PieceFits p (q ∷ pieces) f.fits a.fit;
  values = values_more p value (q ∷ pieces) from f.values a.values;
  small = All-append IsSmallNumber (value_list value) from (small_list value f.small) a.small;
}

-- ---- the piece at the front of a list

-- what a list of pieces is, by its first one
record Headed (bytes : List ℕ) (p : Piece) (pieces : List Piece) (from : List ℕ) : Type 0 where
  pub value : Option ℕ
  pub others : List ℕ
  pub len : ℕ
  pub from_is : from ≡ value_list value ++ others
  pub front : Fronts bytes p value len
  pub rest : ((pieces ≡ []) × (others ≡ []) × (drop len bytes ≡ []))
      ⊎ ((tail : List ℕ) × (drop len bytes ≡ 44 ∷ tail) × AreListed tail pieces others)

-- the variable of a piece, and those of the others
record Parted (p : Piece) (from : List ℕ) (n : ℕ) : Type 0 where
  pub value : Option ℕ
  pub others : List ℕ
  pub from_is : from ≡ value_list value ++ others
  pub values : length (value_list value) ≡ value_count p
  pub small : IfSome value IsSmallNumber
  pub others_small : AreSmall others
  pub others_len : length others ≡ n

parted : (p : Piece) (from : List ℕ) (n : ℕ) → length from ≡ value_count p + n → AreSmall from → Parted p from n
parted (piece.Text bytes) from n e s = record {
  value = None;
  others = from;
  from_is = refl;
  values = refl;
  small = tt;
  others_small = s;
  others_len = omega (arith, e);
}
parted piece.Value [] n e s = absurd (omega (arith, e))
parted piece.Value (v ∷ from) n e s = record {
  value = Some v;
  others = from;
  from_is = refl;
  values = refl;
  small = All-head IsSmallNumber v from s;
  others_small = All-tail IsSmallNumber v from s;
  others_len = omega (arith, e);
}

headed : (bytes : List ℕ) (p : Piece) (pieces : List Piece) (from : List ℕ) → AreListed bytes (p ∷ pieces) from
    → Headed bytes p pieces from
headed bytes p pieces from a =
    let part = parted p from (printed_value_count pieces) a.values a.small in
    let words : piece_words (p ∷ pieces) from 0 ≡ piece_word p (value_list part.value) 0 ∷ piece_words pieces part.others 0 =
    ap (λ f. piece_words (p ∷ pieces) f 0) part.from_is ∙ words_split p part.value pieces part.others part.values in
    by pieces part (a.text ∙ ap comma_separated words) (All-head PieceFits p pieces a.fit) (All-tail PieceFits p pieces a.fit)
  where
    closed : (p : Piece) (rest : List ℕ) → get_or rest 0 44 ≡ 44 → IsDelimited p rest
    closed (piece.Text bytes) rest e = tt
    closed piece.Value rest e = e

    fronts : (value : Option ℕ) (rest : List ℕ) → bytes ≡ piece_word p (value_list value) 0 ++ rest
        → length (value_list value) ≡ value_count p → IfSome value IsSmallNumber → PieceFits p → get_or rest 0 44 ≡ 44
        → Fronts bytes p value (length (piece_word p (value_list value) 0)) × (drop (length (piece_word p (value_list value) 0)) bytes ≡ rest)
    fronts value rest e v s f c =
        let w = piece_word p (value_list value) 0 in
        let dropped : drop (length w) bytes ≡ rest = ap (drop (length w)) e ∙ drop_at w rest (length w) refl in (
          record {
            cut = e ∙ ap (λ t. w ++ t) (sym dropped);
            within = omega (arith, length-append w rest, ap length e);
            fits = f;
            values = v;
            small = s;
            closed = subst (IsDelimited p) (sym dropped) (closed p rest c);
          },
          dropped,
        )

    by : (pieces : List Piece) (part : Parted p from (printed_value_count pieces))
        → bytes ≡ comma_separated (piece_word p (value_list part.value) 0 ∷ piece_words pieces part.others 0) → PieceFits p
        → All PieceFits pieces → Headed bytes p pieces from
    by [] part e f g =
        let w = piece_word p (value_list part.value) 0 in
        let both = fronts part.value [] (e ∙ sym (append-nil w)) part.values part.small f refl in
        record {
          value = part.value;
          others = part.others;
          len = length w;
          from_is = part.from_is;
          front = both.0;
          rest = inl (refl, none part.others part.others_len, both.1);
        }
      where
        none : (xs : List ℕ) → length xs ≡ 0 → xs ≡ []
        none [] e = refl
        none (x ∷ xs) e = absurd (omega (arith, e))
    by (q ∷ pieces) part e f g =
        let w = piece_word p (value_list part.value) 0 in
        let tail = comma_separated (piece_words (q ∷ pieces) part.others 0) in
        let both = fronts part.value (44 ∷ tail) e part.values part.small f refl in
        record {
          value = part.value;
          others = part.others;
          len = length w;
          from_is = part.from_is;
          front = both.0;
          rest = inr (
            tail,
            both.1,
            record {
              text = refl;
              some = not_empty q pieces;
              fit = g;
              values = part.others_len;
              small = part.others_small;
            },
          );
        }

-- ---- a list, read from the front

-- what a list is, where some pieces of it were read
pub record Led (list : List ℕ) (ps : List Piece) (fs : List ℕ) (at : ℕ) (all : List Piece) (from : List ℕ) : Type 0 where
  pub more : List Piece
  pub others : List ℕ
  pub all_is : all ≡ ps ++ more
  pub from_is : from ≡ fs ++ others
  pub rest : AreListed (drop at list) more others

-- what is left continues with these pieces, and a list can only be what was read with what is left
pub record Leads (list : List ℕ) (ps : List Piece) (fs : List ℕ) (at : ℕ) : Type 0 where
  pub onto : (more : List Piece) (others : List ℕ) → AreListed (drop at list) more others
      → AreListed list (ps ++ more) (fs ++ others)
  pub only : (all : List Piece) (from : List ℕ) → AreListed list all from → Led list ps fs at all from

pub leads_start : (list : List ℕ) → Leads list [] [] 0
leads_start list = record {
  onto = λ more others a. a;
  only = λ all from a. record { more = all; others = from; all_is = refl; from_is = refl; rest = a };
}

module _ (list : List ℕ) (ps : List Piece) (fs : List ℕ) (at : ℕ) (l : Leads list ps fs at) where
  -- nothing is at the front
  pub leads_none : NoneFronts (drop at list) → (all : List Piece) (from : List ℕ) → ¬ (AreListed list all from)
  leads_none none all from a = let r = l.only all from a in by r.more r.rest
    where
      by : (more : List Piece) → {others : List ℕ} → AreListed (drop at list) more others → ⊥
      by [] a = absurd (a.some refl)
      by (p ∷ more) {others} a =
          let h = headed (drop at list) p more others a in
          none p h.value h.len h.front

  module _ (p : Piece) (value : Option ℕ) (n : ℕ) (f : Fronts (drop at list) p value n) where
    pub leads_end : drop n (drop at list) ≡ [] → AreListed list (ps ++ p ∷ []) (fs ++ value_list value)
    leads_end e = l.onto (p ∷ []) (value_list value) (one_listed (drop at list) p value n f e)

    -- what follows a piece is neither a comma nor the end
    pub leads_wrong : get_or (drop n (drop at list)) 0 44 ≢ 44 → (all : List Piece) (from : List ℕ) → ¬ (AreListed list all from)
    leads_wrong wrong all from a = let r = l.only all from a in by r.more r.others r.rest
      where
        by : (more : List Piece) (others : List ℕ) → AreListed (drop at list) more others → ⊥
        by [] others a = absurd (a.some refl)
        by (q ∷ more) others a =
            let h = headed (drop at list) q more others a in
            let same = fronts_one (drop at list) p q value h.value n h.len f h.front in
            ends h.len more h.others h.rest (ap (λ k. drop k (drop at list)) same.len)
          where
            ends : (len : ℕ) (pieces : List Piece) (left : List ℕ) → ((pieces ≡ []) × (left ≡ []) × (drop len (drop at list) ≡ []))
                ⊎ ((tail : List ℕ) × (drop len (drop at list) ≡ 44 ∷ tail) × AreListed tail pieces left)
                → drop n (drop at list) ≡ drop len (drop at list) → ⊥
            ends len pieces left (inl r) e = wrong (ap (λ t. get_or t 0 44) (e ∙ r.2))
            ends len pieces left (inr r) e = wrong (ap (λ t. get_or t 0 44) (e ∙ r.1))

    -- a comma follows
    pub leads_more : (tail : List ℕ) → drop n (drop at list) ≡ 44 ∷ tail → tail ≡ drop (at + n + 1) list
        → Leads list (ps ++ p ∷ []) (fs ++ value_list value) (at + n + 1)
    leads_more tail e t = record {
      onto = λ more others a.
          let b = more_listed (drop at list) tail p value n more others f e (subst (λ x. AreListed x more others) (sym t) a) in
          subst (λ x. AreListed list x ((fs ++ value_list value) ++ others)) (sym (append_assoc ps (p ∷ []) more))
          (subst (λ x. AreListed list (ps ++ p ∷ more) x) (sym (append_assoc fs (value_list value) others))
          (l.onto (p ∷ more) (value_list value ++ others) b));
      only = λ all from a. let r = l.only all from a in by all from r.more r.others r.all_is r.from_is r.rest;
    }
      where
        by : (all : List Piece) (from : List ℕ) (more : List Piece) (others : List ℕ) → all ≡ ps ++ more → from ≡ fs ++ others
            → AreListed (drop at list) more others
            → Led list (ps ++ p ∷ []) (fs ++ value_list value) (at + n + 1) all from
        by all from [] others a g r = absurd (r.some refl)
        by all from (q ∷ more) others a g r =
            let h = headed (drop at list) q more others r in
            let same = fronts_one (drop at list) p q value h.value n h.len f h.front in
            go h.value h.others h.len h.from_is h.rest same.piece same.value same.len
          where
            go : (w : Option ℕ) (left : List ℕ) (len : ℕ) → others ≡ value_list w ++ left
                → (((more ≡ []) × (left ≡ []) × (drop len (drop at list) ≡ []))
                ⊎ ((tail : List ℕ) × (drop len (drop at list) ≡ 44 ∷ tail) × AreListed tail more left))
                → p ≡ q → value ≡ w → n ≡ len
                → Led list (ps ++ p ∷ []) (fs ++ value_list value) (at + n + 1) all from
            go w left len o (inl r) u v k =
                absurd (omega (arith, ap length (sym e ∙ ap (λ k. drop k (drop at list)) k ∙ r.2)))
            go w left len o (inr r) u v k = record {
              more = more;
              others = left;
              all_is = a ∙ ap (λ x. ps ++ x ∷ more) (sym u) ∙ sym (append_assoc ps (p ∷ []) more);
              from_is = g ∙ ap (λ x. fs ++ x) (o ∙ ap (λ x. value_list x ++ left) (sym v)) ∙ sym (append_assoc fs (value_list value) left);
              rest = subst (λ x. AreListed x more left)
                  (ap (drop 1) (sym r.1 ∙ ap (λ k. drop k (drop at list)) (sym k) ∙ e) ∙ t) r.2;
            }

-- ---- there is one list

pub record SameListed (ps qs : List Piece) (fs gs : List ℕ) : Type 0 where
  pub pieces : ps ≡ qs
  pub from : fs ≡ gs

pub listed_one : (ps qs : List Piece) (bytes fs gs : List ℕ) → AreListed bytes ps fs → AreListed bytes qs gs → SameListed ps qs fs gs
listed_one [] qs bytes fs gs a b = absurd (a.some refl)
listed_one (p ∷ ps) [] bytes fs gs a b = absurd (b.some refl)
listed_one (p ∷ ps) (q ∷ qs) bytes fs gs a b =
    let h = headed bytes p ps fs a in
    let k = headed bytes q qs gs b in
    let same = fronts_one bytes p q h.value k.value h.len k.len h.front k.front in
    go h.value k.value h.others k.others h.len k.len h.from_is k.from_is h.rest k.rest same.piece same.value same.len
    (λ tail xs ys r s. listed_one ps qs tail xs ys r s)
  where
    go : (v w : Option ℕ) (xs ys : List ℕ) (n m : ℕ) → fs ≡ value_list v ++ xs → gs ≡ value_list w ++ ys
        → (((ps ≡ []) × (xs ≡ []) × (drop n bytes ≡ []))
        ⊎ ((tail : List ℕ) × (drop n bytes ≡ 44 ∷ tail) × AreListed tail ps xs))
        → (((qs ≡ []) × (ys ≡ []) × (drop m bytes ≡ []))
        ⊎ ((tail : List ℕ) × (drop m bytes ≡ 44 ∷ tail) × AreListed tail qs ys))
        → p ≡ q → v ≡ w → n ≡ m
        → ((tail xs ys : List ℕ) → AreListed tail ps xs → AreListed tail qs ys → SameListed ps qs xs ys)
        → SameListed (p ∷ ps) (q ∷ qs) fs gs
    go v w xs ys n m e f (inl r) (inl s) x y z more = record {
      pieces = ap (λ p. p ∷ ps) x ∙ ap (λ t. q ∷ t) (r.0 ∙ sym s.0);
      from = e ∙ ap (λ v. value_list v ++ xs) y ∙ ap (λ t. value_list w ++ t) (r.1 ∙ sym s.1) ∙ sym f;
    }
    go v w xs ys n m e f (inl r) (inr s) x y z more =
        absurd (omega (arith, ap length (sym r.2 ∙ ap (λ k. drop k bytes) z ∙ s.1)))
    go v w xs ys n m e f (inr r) (inl s) x y z more =
        absurd (omega (arith, ap length (sym r.1 ∙ ap (λ k. drop k bytes) z ∙ s.2)))
    go v w xs ys n m e f (inr r) (inr s) x y z more =
        let rest = more r.0 xs ys r.2
        (subst (λ t. AreListed t qs ys) (ap (drop 1) (sym s.1 ∙ ap (λ k. drop k bytes) (sym z) ∙ r.1)) s.2) in
        record {
          pieces = ap (λ p. p ∷ ps) x ∙ ap (λ t. q ∷ t) rest.pieces;
          from = e ∙ ap (λ v. value_list v ++ xs) y ∙ ap (λ t. value_list w ++ t) rest.from ∙ sym f;
        }
