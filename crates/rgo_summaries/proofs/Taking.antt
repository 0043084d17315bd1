-- Summaries of functions, whose nodes are taken out one after another.
use Rattle.std.proofs.Common.{◌≡◌, ◌≢◌, ⊎_elim, ℕ, ◌<◌, ◌≤◌, ◌+◌, List, [], ◌∷◌, ◌++◌, Some, length, set, slice_get, sym, ap, ◌∙◌, subst, arith, length-append}
use Rattle.std.proofs.lemmas.List.{length-set}
use Rattle.std.proofs.lemmas.Option.{same_Some}
use Rattle.rgo_tac.specs.Code.{TacFn}
use Rattle.rgo_classes.specs.declared.classes.Summary.{Summary}
use Rattle.rgo_classes.specs.Classes.{AreNamed, outer_members}
use Rattle.rgo_classes.specs.Naming.{AreLike}
use Rattle.rgo_summaries.specs.declared.nodes.Nodes.{Nodes}
use Rattle.rgo_summaries.specs.Families.{outer_classes}
use Rattle.rgo_summaries.proofs.Outer.{below_or_last, get_last, get_left}
use Rattle.rgo_summaries.proofs.Progressing.{get_set_other}

-- a function's summary names the labels of its nodes
abbrev pub IsNamed : TacFn → Nodes → Summary → Type 0
IsNamed f m s = AreNamed (AreLike m.labels.items) f (outer_members f) (outer_classes s)

-- The functions before this one have their summaries, and the others still have their nodes.
pub record AreTaken (functions : List TacFn) (given now : List Nodes) (all : List Summary) (n : ℕ) : Type 0 where
  pub len : length all ≡ n
  pub size : length now ≡ length given
  pub rest : (k : ℕ) → n ≤ k → slice_get now k ≡ slice_get given k
  pub named : (k : ℕ) (f : TacFn) (m : Nodes) (s : Summary) → k < n → slice_get functions k ≡ Some f
      → slice_get given k ≡ Some m → slice_get all k ≡ Some s → IsNamed f m s

module _ (functions : List TacFn) (given now : List Nodes) (all : List Summary) (n : ℕ) (f : TacFn) (m blank : Nodes)
    (s : Summary) (t : AreTaken functions given now all n) (known : slice_get functions n ≡ Some f)
    (own : slice_get now n ≡ Some m) (named : IsNamed f m s) where
  rest_more : (k : ℕ) → n + 1 ≤ k → slice_get (set now n blank) k ≡ slice_get given k
  rest_more k l =
      let apart : k ≢ n = λ e. omega (arith, l, e) in
      get_set_other now n k blank apart ∙ t.rest k (omega (arith, l))

  given_own : slice_get given n ≡ Some m
  given_own = sym (t.rest n (omega arith)) ∙ own

  named_before : (k : ℕ) (g : TacFn) (o : Nodes) (r : Summary) → k < n → slice_get functions k ≡ Some g
      → slice_get given k ≡ Some o → slice_get (all ++ s ∷ []) k ≡ Some r → IsNamed g o r
  named_before k g o r l fn nodes sum =
      t.named k g o r l fn nodes (sym (get_left all (s ∷ []) k (omega (arith, l, t.len))) ∙ sum)

  named_here : (k : ℕ) (g : TacFn) (o : Nodes) (r : Summary) → k ≡ n → slice_get functions k ≡ Some g
      → slice_get given k ≡ Some o → slice_get (all ++ s ∷ []) k ≡ Some r → IsNamed g o r
  named_here k g o r e fn nodes sum =
      let same_f : f ≡ g = same_Some f g (sym known ∙ ap (slice_get functions) (sym e) ∙ fn) in
      let same_m : m ≡ o = same_Some m o (sym given_own ∙ ap (slice_get given) (sym e) ∙ nodes) in
      let same_s : s ≡ r =
      same_Some s r (sym (get_last all s) ∙ ap (slice_get (all ++ s ∷ [])) (t.len ∙ sym e) ∙ sum)
      in
      subst (λ (h : TacFn). IsNamed h o r) same_f
      (subst (λ (h : Nodes). IsNamed f h r) same_m (subst (λ (h : Summary). IsNamed f m h) same_s named))

  pub taken_more : AreTaken functions given (set now n blank) (all ++ s ∷ []) (n + 1)
  taken_more = record {
    len = omega (arith, length-append all (s ∷ []), t.len);
    size = length-set now n blank ∙ t.size;
    rest = rest_more;
    named = λ k g o r l fn nodes sum. ⊎_elim
        (λ b. named_before k g o r b fn nodes sum)
        (λ e. named_here k g o r e fn nodes sum)
        (below_or_last n k l);
  }
