-- Walks over lines, one after the other, and what is known at their end. By induction over the lines: the limit only falls, and each time
-- it falls the line is noted, so at the end it is the least broken rule with its first line.
use Rattle.std.proofs.Common.{◌≡◌, ℕ, ◌+◌, ◌-◌, ◌^◌, min, ◌<◌, ◌≤◌, List, [], ◌∷◌, ◌++◌, length, Option, Some, None, slice_get, sym, ◌∙◌, subst, refl, arith, ◌⊎◌, inl, inr, length-append, append_assoc, MatchOption}
use Rattle.std.proofs.lemmas.Bool.{cases_lt}
use Rattle.std.proofs.lemmas.List.{append-nil}
use Rattle.std.proofs.lemmas.Option.{slice_get_within}
use Rattle.rgo_code.specs.declared.rules.CodeRefusal.{CodeRefusal}
use Rattle.rgo_code.specs.declared.rules.Line.{Line}
use Rattle.rgo_code.specs.declared.rules.Rule.{Rule}
use Rattle.rgo_code.specs.Checked.{KeepsRule, IsFirstBroken, rule_number}
use Rattle.rgo_code.specs.Code.{Code}
use Rattle.rgo_checker.specs.declared.scan.Scan.{Scan}
use Rattle.rgo_checker.specs.Instrs.{LeastBroken}
use Rattle.rgo_checker.specs.Lines.{lines_of}
use Rattle.rgo_checker.specs.Scan.{IsKept, BreaksFirst, IsBroken, BrokenIs, Scanned, Walks, line_number_at, past_next_line}
use Rattle.rgo_checker.specs.Sizes.{HasNumbers}
use Rattle.rgo_checker.proofs.Getting.{IsIn, get_left, get_right, get_split, get_one}
use Rattle.rgo_checker.proofs.walks.Reaching.{lines_long, reach, number_at}

module _ (code : Code) (from to : ℕ) where
  pub walks_none : (s : Scan) → Walks code from to [] s s
  walks_none s = record { walks = λ seen h. subst (λ ls. Scanned code from to ls s) (sym (append-nil seen)) h }

  pub walks_then : (a b : List Line) (s t u : Scan) → Walks code from to a s t → Walks code from to b t u
      → Walks code from to (a ++ b) s u
  walks_then a b s t u p q = record {
    walks = λ seen h. subst (λ ls. Scanned code from to ls u) (append_assoc seen a b)
        (q.walks (seen ++ a) (p.walks seen h));
  }

  -- ---- one line

  module _ (seen : List Line) (l : Line) where
    kept_more : (rule : Rule) (kept : (place : ℕ) (m : Line) → slice_get seen place ≡ Some m → IsKept code rule m)
        → IsKept code rule l → (place : ℕ) (m : Line) → slice_get (seen ++ l ∷ []) place ≡ Some m → IsKept code rule m
    kept_more rule kept here place m e = go (get_split seen (l ∷ []) place m e)
      where
        go : IsIn seen (l ∷ []) place m → IsKept code rule m
        go (inl q) = kept place m q
        go (inr (j, h, q)) = subst (IsKept code rule) (get_one l m j q).1 here

    earlier : (rule : Rule) (x : ℕ) → BreaksFirst code seen rule x → BreaksFirst code (seen ++ l ∷ []) rule x
    earlier rule x b = record {
      place = b.place;
      at = b.at;
      there = get_left seen (l ∷ []) b.place b.at b.there;
      numbered = b.numbered;
      is_broken = b.is_broken;
      first = λ before m low e. go before m low (get_split seen (l ∷ []) before m e);
    }
      where
        go : (before : ℕ) (m : Line) → before < b.place → IsIn seen (l ∷ []) before m → IsKept code rule m
        go before m low (inl q) = b.first before m low q
        go before m low (inr (j, h, q)) = absurd (omega (arith, low, h, slice_get_within seen b.place b.at b.there))

    still : (limit : ℕ) (o : Option CodeRefusal) → BrokenIs code from to seen limit o
        → BrokenIs code from to (seen ++ l ∷ []) limit o
    still limit None h = h
    still limit (Some x) h = record {
      limit_is = h.limit_is;
      low = h.low;
      high = h.high;
      breaks = earlier x.rule x.line h.breaks;
    }

    at_most : (limit : ℕ) (o : Option CodeRefusal) → BrokenIs code from to seen limit o → limit ≤ to
    at_most limit None h = omega (arith, h)
    at_most limit (Some x) h = omega (arith, h.high)

    inside : (before : ℕ) (m : Line) → before < length seen → slice_get (seen ++ l ∷ []) before ≡ Some m
        → slice_get seen before ≡ Some m
    inside before m low e = go (get_split seen (l ∷ []) before m e)
      where
        go : IsIn seen (l ∷ []) before m → slice_get seen before ≡ Some m
        go (inl q) = q
        go (inr (j, h, q)) = absurd (omega (arith, low, h))

    longer : (n : ℕ) → n ≡ line_number_at (length seen) → min (n + 1) (2 ^ 32 - 1) ≡ line_number_at (length (seen ++ l ∷ []))
    longer n e = omega (arith, e, length-append seen (l ∷ []))

    pass_line : (s : Scan) (found : Option Rule) → LeastBroken (λ rule. IsKept code rule l) from s.limit found
        → Scanned code from to seen s → Scanned code from to (seen ++ l ∷ []) (past_next_line s found)
    pass_line s None least h = record {
      line = longer s.line h.line;
      kept = λ rule place m low high e.
          kept_more rule (λ p k g. h.kept rule p k low high g) (least rule low high) place m e;
      broken = still s.limit s.broken h.broken;
    }
    pass_line s (Some rule) least h = record {
      line = longer s.line h.line;
      kept = λ lesser place m low high e.
          kept_more lesser (λ p k g. h.kept lesser p k low (omega (arith, high, least.1)) g) (least.3 lesser low high)
          place m e;
      broken = record {
        limit_is = refl;
        low = least.0;
        high = omega (arith, least.1, at_most s.limit s.broken h.broken);
        breaks = record {
          place = length seen;
          at = l;
          there = get_right seen (l ∷ []) 0 (length seen) l refl (omega arith);
          numbered = h.line;
          is_broken = least.2;
          first = λ before m low e. h.kept rule before m least.0 least.1 (inside before m low e);
        };
      };
    }

  pub walks_line : (l : Line) (s : Scan) (found : Option Rule)
      → (s.limit ≤ to → LeastBroken (λ rule. IsKept code rule l) from s.limit found)
      → Walks code from to (l ∷ []) s (past_next_line s found)
  walks_line l s found least = record {
    walks = λ seen h. pass_line seen l s found (least (at_most seen l s.limit s.broken h.broken)) h;
  }

-- ---- the end of a walk

module _ (code : Code) (from to : ℕ) (s : Scan) (h : Scanned code from to (lines_of code) s) (few : HasNumbers code) where
  keeps_below : (rule : Rule) → from ≤ rule_number rule → rule_number rule < s.limit → KeepsRule code rule
  unfolding IsKept
  keeps_below rule low high line =
      reach code rule (λ j. Unit {0}) (λ j m w e. h.kept rule j m low high e) line (λ j e. tt)

  pub all_kept : s.broken ≡ None → (rule : Rule) → from ≤ rule_number rule → rule_number rule < to → KeepsRule code rule
  all_kept none rule low high =
      let limit : BrokenIs code from to (lines_of code) s.limit None
      = subst (BrokenIs code from to (lines_of code) s.limit) none h.broken in
      keeps_below rule low (omega (arith, high, limit))

  pub first_broken : (x : CodeRefusal) → s.broken ≡ Some x
      → ((lesser : Rule) → rule_number lesser < from → KeepsRule code lesser) → IsFirstBroken code x.rule x.line
  unfolding IsKept
  first_broken x some before = record {
    at = b.breaks.at;
    numbered = number_at code b.breaks.place b.breaks.at b.breaks.there ∙ sym numbered;
    is_broken = b.breaks.is_broken;
    least = λ lesser l. go lesser l (cases_lt (rule_number lesser) from);
    first = λ line l. reach code x.rule (λ j. j < b.breaks.place) (λ j m w e. b.breaks.first j m w e) line
        (λ j e. omega (arith, e, l, numbered));
  }
    where
      b : IsBroken code from to (lines_of code) s.limit x
      b = subst (BrokenIs code from to (lines_of code) s.limit) some h.broken

      -- its number has 32 bits, as that of the last line has
      numbered : x.line ≡ b.breaks.place + 2
      numbered =
          omega (
            arith,
            few,
            lines_long code,
            b.breaks.numbered,
            slice_get_within (lines_of code) b.breaks.place b.breaks.at b.breaks.there,
          )

      go : (lesser : Rule) → rule_number lesser < rule_number x.rule
          → (rule_number lesser < from) ⊎ (from ≤ rule_number lesser) → KeepsRule code lesser
      go lesser l (inl q) = before lesser q
      go lesser l (inr q) = keeps_below lesser q (omega (arith, l, b.limit_is))

  pub outcome : {P : Type 0} → (((rule : Rule) → from ≤ rule_number rule → rule_number rule < to → KeepsRule code rule) → P)
      → ((lesser : Rule) → rule_number lesser < from → KeepsRule code lesser)
      → MatchOption s.broken P (λ x. IsFirstBroken code x.rule x.line)
  outcome {P} then before = go s.broken refl
    where
      go : (o : Option CodeRefusal) → s.broken ≡ o → MatchOption o P (λ x. IsFirstBroken code x.rule x.line)
      go None e = then (all_kept e)
      go (Some x) e = first_broken x e before
