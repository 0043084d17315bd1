use Rattle.std.proofs.Common.{◌≡◌, ◌∙◌, ◌<◌, true, false, length, sym, arith}
use Rattle.rgo_tac.specs.Joins.{is_pointer_like_member}
use Rattle.rgo_classes.specs.Labels.{label_of}
use Rattle.rgo_classes.proofs.Giving.{class_no, naming_kept, naming_more}
use Rattle.rgo_classes.proofs.Labelled.{has_label}
use Rattle.std.proofs.lemmas.Bool.{false≢true}
use Rattle.rgo_classes.proofs.names.name_member.Goals as goal

pub returns-then-not-is_pointer_like-clause-class : goal.returns-then-not-is_pointer_like-clause-class
returns-then-not-is_pointer_like-clause-class c = λ members classes n.
    let f = c.args.function.now in
    let labels = c.args.labels.now in
    let no : is_pointer_like_member f c.args.member ≡ false = grind arith in
    naming_kept labels f members classes c.args.given.now c.args.next.now n c.args.member _
    (sym (class_no c.args.given.now labels f c.args.member no)) (λ like. absurd (false≢true (sym no ∙ like)))

pub label-requires : goal.label-requires
label-requires c =
    let like : is_pointer_like_member c.args.function.now c.args.member ≡ true = grind arith in
    has_label c.args.function.now c.args.labels.now c.args.member c.requires.fits like

pub returns-clause-class : goal.returns-clause-class
returns-clause-class c = λ members classes n.
    let f = c.args.function.now in
    let labels = c.args.labels.now in
    let like : is_pointer_like_member f c.args.member ≡ true = grind arith in
    let inside : label_of labels c.args.member < length c.args.given.now =
    omega (arith, c.label.ensures.label, c.label.ensures.below, c.requires.size) in
    naming_more labels f members classes c.args.given.now c.args.next.now n c.args.member c.class_of.new.given
    c.class_of.new.next c.class_of.result like inside (rw c.label.ensures.label at c.class_of.ensures.class)
