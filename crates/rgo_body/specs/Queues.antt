-- The duties that a goroutine keeps in a queue. `room` is a part of the value, since contracts ask for it: a duty after an access must
-- find memory.
use Rattle.std.specs.Prelude.{ℕ, List, map, reverse}
use Rattle.rgo_sound.specs.RegionMachine.States as machine
use Rattle.rgo_body.specs.declared.queues.Duty.{Duty}
use Rattle.rgo_body.specs.declared.queues.Duty.TheVariants as duty
use Rattle.rgo_body.specs.declared.queues.Kind.{Kind}
use Rattle.rgo_body.specs.declared.queues.Kind.TheVariants as kind

-- the first duty comes first; `room` is for how many more there is memory
pub record Queue : Type 0 where
  pub duties : List machine.Duty
  pub room : ℕ

abbrev pub duty_of : Duty → machine.Duty
duty_of (duty.Create name) = machine.Create name
duty_of (duty.Share name) = machine.Share name
duty_of (duty.Protect name) = machine.Protect name
duty_of (duty.Unprotect name) = machine.Unprotect name
duty_of (duty.Remove name) = machine.Remove name
duty_of (duty.EndBase r) = machine.EndBase r

-- the last one is kept first
abbrev pub duties_of : List Duty → List machine.Duty
duties_of duties = map duty_of (reverse duties)

-- the duty of this kind for a name
abbrev pub duty_with : Kind → (name : ℕ) → machine.Duty
duty_with kind.Create = machine.Create
duty_with kind.Protect = machine.Protect
duty_with kind.Unprotect = machine.Unprotect
duty_with kind.Remove = machine.Remove
