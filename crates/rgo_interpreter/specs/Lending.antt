-- What becomes of the memory, or of a block of it, when one of its objects is lent to be changed: it ends with what was written, and all
-- else is as it was.
use Rattle.std.specs.Prelude.{◌≡◌, ℕ, Option, Some, OnSome, nat_eq}
use Rattle.std.specs.Borrow.{Fml, MutBor, LendsSo}
use Rattle.indexmap.specs.IndexMap.{Updates}
use Rattle.rgo_interpreter.specs.declared.blocks.Block.{Block}
use Rattle.rgo_interpreter.specs.declared.memory.Memory.{Memory}
use Rattle.rgo_interpreter.specs.declared.objects.Object.{Object}
use Rattle.rgo_interpreter.specs.contracts.blocks.Block as block
use Rattle.rgo_interpreter.specs.contracts.memory.Memory as memory
use Rattle.rgo_interpreter.specs.contracts.objects.Object as object
use Rattle.rgo_interpreter.specs.Blocks.{Puts}
use Rattle.rgo_memory.specs.Memory.{with_object}
use Rattle.rgo_interpreter.specs.Views.{object_view, memory_view}

-- the block of that number is now this one, and nothing else changed
abbrev pub HasBlock : Memory → ℕ → Block → Memory → Type 0
HasBlock before b block after =
    (after ≡ record before { blocks = after.blocks }) × Updates nat_eq before.blocks after.blocks b (Some block)

-- the memory ends with the block that was written last under that number; unchanged where none was lent
abbrev pub LendsBlock : MutBor Memory → ℕ → Option (MutBor Block) → Fml
LendsBlock m b lent = LendsSo memory.the_row block.the_row m lent
    (λ after block. OnSome lent (HasBlock m.now b block after))
    (λ after. after ≡ m.now)

-- the memory ends with the object that was written last; unchanged where none was lent
abbrev pub LendsObject : MutBor Memory → ℕ → Option (MutBor Object) → Fml
LendsObject m n lent = LendsSo memory.the_row object.the_row m lent
    (λ after object. OnSome lent (memory_view after ≡ with_object (memory_view m.now) n (object_view object)))
    (λ after. memory_view after ≡ memory_view m.now)

-- the block ends with the object that was written last in that slot; unchanged where none was lent
abbrev pub LendsSlot : MutBor Block → ℕ → Option (MutBor Object) → Fml
LendsSlot b slot lent = LendsSo block.the_row object.the_row b lent
    (λ after object. OnSome lent (Puts b.now slot (Some object) after))
    (λ after. after.slots.items ≡ b.now.slots.items)
