-- Members that are pointer-like have labels.
use Rattle.std.proofs.Common.{◌≡◌, ⊎_elim, ℕ, ◌<◌, true, List, length, slice_get, sym, ap, ◌∙◌, arith}
use Rattle.std.proofs.lemmas.Bool.{cases_lt, false≢true}
use Rattle.std.proofs.lemmas.Option.{slice_get_past}
use Rattle.rgo_typed.specs.declared.types.Type.{«Type»}
use Rattle.rgo_tac.specs.declared.regions.Member.{Member}
use Rattle.rgo_tac.specs.declared.regions.Member.TheVariants.{Variable, Result, Global}
use Rattle.rgo_tac.specs.Code.{TacFn}
use Rattle.rgo_tac.specs.Joins.{is_pointer_like_type}
use Rattle.rgo_classes.specs.Holding.{Among}
use Rattle.rgo_classes.specs.Joins.{IsPointerLike}
use Rattle.rgo_classes.specs.Labels.{AreFor, IsIn, JoinsAlso}
use Rattle.rgo_classes.proofs.Joining.{Relation, Within}

pub variable_below : (types : List «Type») (v : ℕ) → is_pointer_like_type (slice_get types v) ≡ true → v < length types
variable_below types v like =
    ⊎_elim (λ l. l)
    (λ past. absurd (false≢true (sym (ap is_pointer_like_type (slice_get_past types v past)) ∙ like)))
    (cases_lt v (length types))

pub has_label : (f : TacFn) (labels : List ℕ) (m : Member) → AreFor f labels → IsPointerLike f m → IsIn labels m
has_label f labels Global fits like = omega arith
has_label f labels Result fits like = omega arith
has_label f labels (Variable v) fits like = omega (arith, variable_below f.variables v like, fits)

pub among_within : (f : TacFn) (labels : List ℕ) (J : Relation) → AreFor f labels → Within labels (Among f J)
among_within f labels J fits a b h = (has_label f labels a fits h.1, has_label f labels b fits h.2)

-- labels that were joined are still for the function
pub old_fits : (f : TacFn) (old labels : List ℕ) (R : Relation) → JoinsAlso old R labels → AreFor f labels → AreFor f
    old
old_fits f old labels R j fits = omega (arith, j.len, fits)
