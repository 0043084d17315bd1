-- The instructions of a function, one after another.
use Rattle.std.proofs.Common.{◌≡◌, inl, inr, ⊎_elim, ℕ, ◌≤◌, ◌+◌, List, Option, Some, None, length, slice_get, refl, sym, ap, ◌∙◌, subst, arith}
use Rattle.std.proofs.lemmas.Option.{none-some, same_Some, slice_get_within}
use Rattle.rgo_tac.specs.declared.regions.Member.{Member}
use Rattle.rgo_tac.specs.Code.{Instr, Op, TacFn}
use Rattle.rgo_tac.specs.Ops.{op_in}
use Rattle.rgo_classes.specs.declared.classes.Summary.{Summary}
use Rattle.rgo_classes.specs.Joins.{Joins}
use Rattle.rgo_classes.specs.Labels.{AreFor, JoinsAlso}
use Rattle.rgo_classes.specs.Made.{JoinsBefore, JoinsOf}
use Rattle.rgo_classes.proofs.Joining.{Either, Relation, Within, joins_equal, joins_more, joins_none}
use Rattle.rgo_classes.proofs.Labelled.{has_label}
use Rattle.rgo_classes.proofs.Moving.{eq_cases}

module _ (summaries : List Summary) (f : TacFn) (old : List ℕ) where
  abbrev Before : ℕ → Relation
  Before n = JoinsBefore summaries f n

  before_none : (a b : Member) → Before 0 a b → ⊥
  before_none a b r = omega (arith, r.before)

  pub body_none : JoinsAlso old (Before 0) old
  body_none = joins_none old (Before 0) before_none

  before_within : AreFor f old → (n : ℕ) → Within old (Before n)
  before_within fits n a b r = (has_label f old a fits r.joined.1, has_label f old b fits r.joined.2)

  module _ (n : ℕ) (labels : List ℕ) (j : JoinsAlso old (Before n) labels) where
    later : (a b : Member) → Before n a b → Before (n + 1) a b
    later a b r = record {
      at = r.at;
      instr = r.instr;
      before = omega (arith, r.before);
      here = r.here;
      joined = r.joined;
    }

    earlier : (a b : Member) (r : Before (n + 1) a b) → (r.at ≡ n → ⊥) → Before n a b
    earlier a b r apart = record {
      at = r.at;
      instr = r.instr;
      before = omega (arith, r.before, apart);
      here = r.here;
      joined = r.joined;
    }

    -- the instruction is not there
    pub body_past : op_in (slice_get f.body n) ≡ None → JoinsAlso old (Before (n + 1)) labels
    body_past none = joins_equal old labels (Before n) (Before (n + 1)) (λ a b. (later a b, before a b)) j
      where
        before : (a b : Member) → Before (n + 1) a b → Before n a b
        before a b r = earlier a b r
            (λ e. none-some r.instr.op
            (sym none ∙ ap (λ k. op_in (slice_get f.body k)) (sym e) ∙ ap op_in r.here))

    -- its joins are made
    pub body_more : (op : Op) (labels' : List ℕ) → AreFor f old → op_in (slice_get f.body n) ≡ Some op
        → JoinsAlso labels (JoinsOf summaries f op) labels' → JoinsAlso old (Before (n + 1)) labels'
    body_more op labels' fits is more =
        joins_equal old labels' (Either (Before n) (JoinsOf summaries f op)) (Before (n + 1))
        (λ a b. (λ h. ⊎_elim (λ r. later a b r) (λ r. last a b r) h, λ r. split a b r))
        (joins_more old labels labels' (Before n) (JoinsOf summaries f op) (before_within fits n) j more)
      where
        instr_of : (i : Option Instr) → op_in i ≡ Some op → (instr : Instr) × (i ≡ Some instr) × (instr.op ≡ op)
        instr_of None e = absurd (none-some op e)
        instr_of (Some instr) e = (instr, refl, same_Some instr.op op e)

        last : (a b : Member) → JoinsOf summaries f op a b → Before (n + 1) a b
        last a b r = let i = instr_of (slice_get f.body n) is in record {
          at = n;
          instr = i.0;
          before = omega arith;
          here = i.1;
          joined = subst (λ o. JoinsOf summaries f o a b) (sym i.2) r;
        }

        op_here : (instr : Instr) → slice_get f.body n ≡ Some instr → instr.op ≡ op
        op_here instr e = same_Some instr.op op (sym (ap op_in e) ∙ is)

        split : (a b : Member) → Before (n + 1) a b → Either (Before n) (JoinsOf summaries f op) a b
        split a b r = ⊎_elim
            (λ e. inr (subst (λ o. JoinsOf summaries f o a b)
            (op_here r.instr (ap (slice_get f.body) (sym e) ∙ r.here)) r.joined))
            (λ apart. inl (earlier a b r apart))
            (eq_cases r.at n)

  -- all are gone through
  pub body_all : (n : ℕ) (labels : List ℕ) → length f.body ≤ n → JoinsAlso old (Before n) labels
      → JoinsAlso old (Joins summaries f) labels
  body_all n labels all = joins_equal old labels (Before n) (Joins summaries f) (λ a b. (forth a b, back a b))
    where
      forth : (a b : Member) → Before n a b → Joins summaries f a b
      forth a b r = record {
        at = r.at;
        instr = r.instr;
        here = r.here;
        joined = r.joined.0;
        first = r.joined.1;
        second = r.joined.2;
      }

      back : (a b : Member) → Joins summaries f a b → Before n a b
      back a b r = record {
        at = r.at;
        instr = r.instr;
        before = omega (arith, slice_get_within f.body r.at r.instr r.here, all);
        here = r.here;
        joined = (r.joined, r.first, r.second);
      }
