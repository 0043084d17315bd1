-- Calls, starts of goroutines, jumps and branches, by what their words are read as.
use Rattle.std.proofs.Common.{◌≡◌, ◌==◌, true, if◌then◌else◌, ℕ, List, length, take, drop, Option, Some, None, refl, sym, ap, ◌∙◌, codes}
use Rattle.std.specs.List.{position_or_len}
use Rattle.std.specs.Option.{option_map}
use Rattle.std.proofs.lemmas.Bool.Decides.{Decides-eqb}
use Rattle.rgo_tac.specs.declared.regions.Class.{Class}
use Rattle.rgo_code.specs.declared.notes.Note.{Note}
use Rattle.rgo_tac.specs.Code as tac
use Rattle.rgo_code.specs.Code.{Call, Go, Jump}
use Rattle.rgo_code_words.specs.Cuts.{nth_word}
use Rattle.rgo_code_text.specs.Ops.{NamedOp, Callee, callee_at, call_note, go_note, removing, read_callee, read_call, read_go, read_jump, read_branch, branch_of, with_ways, unnamed_op, of_length}
use Rattle.rgo_code_words.specs.Readers.{on_some, bytes_inside, read_lettered, read_number, read_value, read_passes, read_regions, read_within}
use Rattle.rgo_code_words.specs.Worded.{is_name}

abbrev pub call_of : Option (Option ℕ) → Option Callee → Option Note → Option NamedOp
call_of None c n = None
call_of (Some to) None n = None
call_of (Some to) (Some c) None = None
call_of (Some to) (Some c) (Some n) = Some (record { op = Call to 0 c.from n.passes n.protects n.removes; name = c.name })

abbrev pub go_of : Option Callee → Option Note → Option NamedOp
go_of None n = None
go_of (Some c) None = None
go_of (Some c) (Some n) = Some (record { op = Go 0 c.from n.passes n.removes; name = c.name })

calling_by : (words : List (List ℕ))
    → read_call words ≡ call_of (read_value (nth_word words 1)) (read_callee (nth_word words 2)) (call_note words)
calling_by words =
    by (read_value (nth_word words 1)) (read_callee (nth_word words 2)) (read_passes (nth_word words 3))
    (read_regions 80 (nth_word words 4)) (read_regions 45 (nth_word words 5))
  where
    by : (v : Option (Option ℕ)) (c : Option Callee) (p : Option (List Class)) (q r : Option (List ℕ))
        → on_some v (λ to. on_some c (λ c. on_some p (λ passes. on_some q (λ protects. on_some r (λ removes.
        Some (record { op = Call to 0 c.from passes protects removes; name = c.name }))))))
        ≡ call_of v c (on_some p (λ passes. on_some q (λ protects. on_some r (λ removes.
        Some (record (removing removes) { passes = passes; protects = protects })))))
    by None c p q r = refl
    by (Some to) None p q r = refl
    by (Some to) (Some c) None q r = refl
    by (Some to) (Some c) (Some p) None r = refl
    by (Some to) (Some c) (Some p) (Some q) None = refl
    by (Some to) (Some c) (Some p) (Some q) (Some r) = refl

starting_by : (words : List (List ℕ)) → read_go words ≡ go_of (read_callee (nth_word words 1)) (go_note words)
starting_by words =
    by (read_callee (nth_word words 1)) (read_passes (nth_word words 2)) (read_regions 45 (nth_word words 3))
  where
    by : (c : Option Callee) (p : Option (List Class)) (r : Option (List ℕ))
        → on_some c (λ c. on_some p (λ passes. on_some r (λ removes.
        Some (record { op = Go 0 c.from passes removes; name = c.name }))))
        ≡ go_of c (on_some p (λ passes. on_some r (λ removes. Some (record (removing removes) { passes = passes }))))
    by None p r = refl
    by (Some c) None r = refl
    by (Some c) (Some p) None = refl
    by (Some c) (Some p) (Some r) = refl

pub call_is : (words : List (List ℕ)) (v : Option (Option ℕ)) (c : Option Callee) (n : Option Note) → length words ≡ 6
    → read_value (nth_word words 1) ≡ v → read_callee (nth_word words 2) ≡ c → call_note words ≡ n
    → of_length 6 words (read_call words) ≡ call_of v c n
call_is words v c n l a b d =
    ap (λ t. if t then read_call words else None) ((Decides-eqb (length words) 6).1 l) ∙ calling_by words
    ∙ ap (λ x. call_of x (read_callee (nth_word words 2)) (call_note words)) a
    ∙ ap (λ x. call_of v x (call_note words)) b ∙ ap (call_of v c) d

pub go_is : (words : List (List ℕ)) (c : Option Callee) (n : Option Note) → length words ≡ 4
    → read_callee (nth_word words 1) ≡ c → go_note words ≡ n → of_length 4 words (read_go words) ≡ go_of c n
go_is words c n l b d =
    ap (λ t. if t then read_go words else None) ((Decides-eqb (length words) 4).1 l) ∙ starting_by words
    ∙ ap (λ x. go_of x (go_note words)) b ∙ ap (go_of c) d

abbrev pub jump_of : Option ℕ → Option (List ℕ) → Option NamedOp
jump_of None r = None
jump_of (Some target) None = None
jump_of (Some target) (Some removes) = unnamed_op (Jump target removes)

abbrev pub branch_by : Option tac.Op → (removes otherwise : Option (List ℕ)) → Option NamedOp
branch_by None r o = None
branch_by (Some op) None o = None
branch_by (Some op) (Some removes) None = None
branch_by (Some op) (Some removes) (Some otherwise) = with_ways op removes otherwise

jumping_by : (t : Option ℕ) (r : Option (List ℕ))
    → on_some t (λ target. on_some r (λ removes. unnamed_op (Jump target removes))) ≡ jump_of t r
jumping_by None r = refl
jumping_by (Some t) None = refl
jumping_by (Some t) (Some r) = refl

branching_by : (b : Option tac.Op) (r o : Option (List ℕ))
    → on_some b (λ op. on_some r (λ removes. on_some o (λ otherwise. with_ways op removes otherwise))) ≡ branch_by b r o
branching_by None r o = refl
branching_by (Some b) None o = refl
branching_by (Some b) (Some r) None = refl
branching_by (Some b) (Some r) (Some o) = refl

pub jump_is : (words : List (List ℕ)) (t : Option ℕ) (r : Option (List ℕ)) → length words ≡ 3
    → read_number (nth_word words 1) ≡ t → read_regions 45 (nth_word words 2) ≡ r → of_length 3 words (read_jump words) ≡ jump_of t r
jump_is words t r l a b =
    ap (λ t. if t then read_jump words else None) ((Decides-eqb (length words) 3).1 l)
    ∙ jumping_by (read_number (nth_word words 1)) (read_regions 45 (nth_word words 2))
    ∙ ap (λ x. jump_of x (read_regions 45 (nth_word words 2))) a ∙ ap (jump_of t) b

pub branch_is : (words : List (List ℕ)) (b : Option tac.Op) (r o : Option (List ℕ)) → length words ≡ 6 → branch_of words ≡ b
    → read_regions 45 (nth_word words 3) ≡ r → read_regions 45 (nth_word words 5) ≡ o
    → of_length 6 words (read_branch words) ≡ branch_by b r o
branch_is words b r o l a d e =
    ap (λ t. if t then read_branch words else None) ((Decides-eqb (length words) 6).1 l)
    ∙ branching_by (branch_of words) (read_regions 45 (nth_word words 3)) (read_regions 45 (nth_word words 5))
    ∙ ap (λ x. branch_by x (read_regions 45 (nth_word words 3)) (read_regions 45 (nth_word words 5))) a
    ∙ ap (λ x. branch_by b x (read_regions 45 (nth_word words 5))) d ∙ ap (branch_by b r) e

-- a callee by its name and its list, where `rest` is what follows the name
pub callee_by : (word : List ℕ) (n : ℕ) (rest : List ℕ) (l : Option (List ℕ)) → n ≡ position_or_len (λ b. b == 40) word
    → rest ≡ drop n word → is_name (take n word) ≡ true → bytes_inside (codes "(") 41 rest ≡ l
    → read_callee word ≡ option_map (λ from. record { name = take n word; from = from }) (read_within (read_lettered 118) l)
callee_by word n rest l e r named i =
    ap (λ k. callee_at k word) (sym e)
    ∙ ap (λ t. if t then option_map (λ from. record { name = take n word; from = from })
    (read_within (read_lettered 118) (bytes_inside (codes "(") 41 (drop n word))) else None) named
    ∙ ap (λ x. option_map (λ from. record { name = take n word; from = from }) (read_within (read_lettered 118) x))
    (ap (bytes_inside (codes "(") 41) (sym r) ∙ i)
