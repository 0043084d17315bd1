-- What an instruction reads and writes, and where it leads, by its decoded operation.
use Rattle.std.proofs.Common.{◌≡◌, ◌<◌, ℕ, [], Option, Some, None, slice_get, length, refl, sym, ap}
use Rattle.std.specs.List.{Contains}
use Rattle.std.proofs.lemmas.Option.{none-some, same_Some, slice_get_within}
use Rattle.rgo_graphs.proofs.Lists.{no_member}
use Rattle.rgo_tac.specs.Code.{Op, Instr, TacFn}
use Rattle.rgo_tac.specs.Flow.{reads, writes, leads_to}
use Rattle.rgo_tac.specs.Ops.{op_in}
use Rattle.rgo_flow.specs.Live.{read_by, written_by, led_to_by, ReadsVariable, WritesVariable, IsSuccessor}

pub read_some : (i : Option Instr) (op : Op) → Some op ≡ op_in i → read_by i ≡ reads op
read_some None op e = absurd (none-some op (sym e))
read_some (Some i) op e = ap reads (sym (same_Some op i.op e))

pub read_none : (i : Option Instr) → None ≡ op_in i → read_by i ≡ []
read_none None e = refl
read_none (Some i) e = absurd (none-some i.op e)

pub written_some : (i : Option Instr) (op : Op) → Some op ≡ op_in i → written_by i ≡ writes op
written_some None op e = absurd (none-some op (sym e))
written_some (Some i) op e = ap writes (sym (same_Some op i.op e))

pub written_none : (i : Option Instr) → None ≡ op_in i → written_by i ≡ None
written_none None e = refl
written_none (Some i) e = absurd (none-some i.op e)

pub led_some : (at : ℕ) (i : Option Instr) (op : Op) → Some op ≡ op_in i → led_to_by at i ≡ leads_to op at
led_some at None op e = absurd (none-some op (sym e))
led_some at (Some i) op e = ap (λ o. leads_to o at) (sym (same_Some op i.op e))

pub led_none : (at : ℕ) (i : Option Instr) → None ≡ op_in i → led_to_by at i ≡ []
led_none at None e = refl
led_none at (Some i) e = absurd (none-some i.op e)

-- only instructions read, write and lead somewhere
reading : (i : Option Instr) (v : ℕ) → Contains (read_by i) v → (x : Instr) × (i ≡ Some x)
reading None v h = absurd (no_member v h)
reading (Some x) v h = (x, refl)

writing : (i : Option Instr) (v : ℕ) → written_by i ≡ Some v → (x : Instr) × (i ≡ Some x)
writing None v h = absurd (none-some v h)
writing (Some x) v h = (x, refl)

leading : (i : Option Instr) (at next : ℕ) → Contains (led_to_by at i) next → (x : Instr) × (i ≡ Some x)
leading None at next h = absurd (no_member next h)
leading (Some x) at next h = (x, refl)

module _ (f : TacFn) (at : ℕ) where
  pub reads_inside : (v : ℕ) → ReadsVariable f at v → at < length f.body
  reads_inside v h = let x = reading (slice_get f.body at) v h in slice_get_within f.body at x.0 x.1

  pub writes_inside : (v : ℕ) → WritesVariable f at v → at < length f.body
  writes_inside v h = let x = writing (slice_get f.body at) v h in slice_get_within f.body at x.0 x.1

  pub leads_inside : (next : ℕ) → IsSuccessor f at next → at < length f.body
  leads_inside next h = let x = leading (slice_get f.body at) at next h in slice_get_within f.body at x.0 x.1
