-- Ints that memory holds have 64 bits.
use Rattle.std.proofs.Common.{◌≡◌, ℕ, ℤ, zero, suc, pos, Some, length, slice_get, FitsSigned, subst}
use Rattle.std.proofs.lemmas.Option.{same_Some}
use Rattle.std.specs.Int.{w64}
use Rattle.rgo_sound.specs.Memory.Memory.{Channel, Object, SliceObject, StructObject}
use Rattle.rgo_sound.specs.Memory.declared.values.Value.TheVariants as value
use Rattle.rgo_sound.proofs.Places.{each_get}
use Rattle.rgo_core_frames.specs.shown.Ints.{ValueFitsWord, ObjectIntsFit}
use Rattle.rgo_core_memory.specs.Encoding.{content}
use Rattle.rgo_core.specs.Core.{Situation, Setup}
use Rattle.rgo_core.specs.Records.{Record}

object_fits : (object : Object) (k : ℕ) (n : ℤ) → ObjectIntsFit object → content object k ≡ Some (value.Int n) → ValueFitsWord (value.Int n)
object_fits (StructObject cells) k n h q = each_get ValueFitsWord cells k (value.Int n) h q
object_fits (SliceObject cells) zero n h q = subst ValueFitsWord (same_Some (value.Int (pos (length cells))) (value.Int n) q) h.1
object_fits (SliceObject cells) (suc k) n h q = each_get ValueFitsWord cells k (value.Int n) h.0 q
object_fits (Channel capacity queue closed) zero n h q = cc
object_fits (Channel capacity queue closed) (suc zero) n h q = subst ValueFitsWord (same_Some (value.Int (pos capacity)) (value.Int n) q) h.1
object_fits (Channel capacity queue closed) (suc (suc k)) n h q = cc

pub content_fits : {T : Setup} {g : ℕ} {c : Record} (x : Situation T g c) (o k : ℕ) (object : Object)
    → slice_get x.s.plain.memory.heap o ≡ Some object → (n : ℤ) → content object k ≡ Some (value.Int n) → FitsSigned w64 n
content_fits x o k object e n q =
    object_fits object k n (each_get ObjectIntsFit x.s.plain.memory.heap o object x.core.ints.memory.objects e) q

pub variable_fits : {T : Setup} {g : ℕ} {c : Record} (x : Situation T g c) (k : ℕ) (n : ℤ)
    → slice_get x.s.plain.memory.variables k ≡ Some (value.Int n) → FitsSigned w64 n
variable_fits x k n q = each_get ValueFitsWord x.s.plain.memory.variables k (value.Int n) x.core.ints.memory.variables q
