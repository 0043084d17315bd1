use Rattle.std.proofs.Common.{◌≡◌, ℕ, ◌+◌, ◌<◌, List, [], ◌∷◌, ◌++◌, length, drop, get_or, refl, sym, ap, ◌∙◌, subst, arith, length-drop}
use Rattle.std.proofs.lemmas.List.{drop-drop, drop_all}
use Rattle.rgo_code_words.specs.Pieces.{Fronts, NoneFronts, AreListed}
use Rattle.rgo_code_words.proofs.ListFacts.{rest_of, drop_here}
use Rattle.rgo_code_words.proofs.PieceLists.{Leads, leads_none, leads_end, leads_wrong, leads_more}
use Rattle.rgo_code_words.proofs.printed.read_pieces.Goals as goal

-- what follows the piece
after : (list : List ℕ) (at n : ℕ) → at + n < length list
    → drop n (drop at list) ≡ get_or list (at + n) 0 ∷ drop (at + n + 1) list
after list at n l = drop-drop n at list ∙ drop_here list (at + n) 0 l

pub returns-in_default : goal.returns-in_default
returns-in_default c =
    let list = c.args.list.now in
    let none = rw c.in_default.is at c.in_ok-first.ensures in
    leads_none list c.pieces.all.pieces.items c.pieces.all.from.items c.pieces.at c.pieces.invariant.leads
    (subst NoneFronts (rest_of list c.pieces.at) none)

pub returns-then-at-list : goal.returns-then-at-list
returns-then-at-list c =
    let list = c.args.list.now in
    let at = c.pieces.at in
    let first = c.in-Some.first in
    let f = subst (λ t. Fronts t first.piece first.value first.len) (rest_of list at) (rw c.in-Some.is at c.in_ok-first.ensures) in
    let ends : drop first.len (drop at list) ≡ [] =
    drop-drop first.len at list ∙ drop_all (at + first.len) list (omega (arith, c.if-at-list.true)) in
    let is = leads_end list c.pieces.all.pieces.items c.pieces.all.from.items at c.pieces.invariant.leads
    first.piece first.value first.len f ends in
    subst (λ ps. AreListed list ps c.add.new.all.from.items) (sym c.in_ok-add.ensures.pieces)
    (subst (AreListed list _) (sym c.in_ok-add.ensures.from) is)

pub returns-then-list-at-ne44 : goal.returns-then-list-at-ne44
returns-then-list-at-ne44 c =
    let list = c.args.list.now in
    let at = c.pieces.at in
    let first = c.in-Some.first in
    let f = subst (λ t. Fronts t first.piece first.value first.len) (rest_of list at) (rw c.in-Some.is at c.in_ok-first.ensures) in
    let less : at + first.len < length list =
    omega (arith, c.if-at-list.false, f.within, length-drop at list, c.pieces.invariant.within) in
    leads_wrong list c.pieces.all.pieces.items c.pieces.all.from.items at c.pieces.invariant.leads
    first.piece first.value first.len f
    (λ e. c.if-list-at-ne44.true (sym (ap (λ t. get_or t 0 44) (after list at first.len less)) ∙ e))

pub pieces-preserved : goal.pieces-preserved
pieces-preserved c =
    let list = c.args.list.now in
    let at = c.pieces.at in
    let first = c.in-Some.first in
    let f = subst (λ t. Fronts t first.piece first.value first.len) (rest_of list at) (rw c.in-Some.is at c.in_ok-first.ensures) in
    let less : at + first.len < length list =
    omega (arith, c.if-at-list.false, f.within, length-drop at list, c.pieces.invariant.within) in
    let is = leads_more list c.pieces.all.pieces.items c.pieces.all.from.items at c.pieces.invariant.leads
    first.piece first.value first.len f (drop (at + first.len + 1) list)
    (after list at first.len less ∙ ap (λ b. b ∷ drop (at + first.len + 1) list) c.if-list-at-ne44.false) refl in
    record {
      within = omega (arith, less);
      leads = subst (λ ps. Leads list ps c.add.new.all.from.items (at + first.len + 1)) (sym c.in_ok-add.ensures.pieces)
          (subst (λ fs. Leads list (c.pieces.all.pieces.items ++ first.piece ∷ []) fs (at + first.len + 1))
          (sym c.in_ok-add.ensures.from) is);
    }
