-- What is made of lines that fit, fits.
use Rattle.std.proofs.Common.{◌≡◌, ℕ, ◌+◌, List, [], ◌∷◌, map, Option, Some, None, IfSome, subst, arith, slice_get}
use Rattle.std.specs.List.{All, Contains}
use Rattle.std.specs.List.Sorted.{IsStrictlyIncreasing}
use Rattle.std.specs.Option.{option_map}
use Rattle.std.proofs.lemmas.List.Elements.{All-push, All-head, All-tail, All-nil}
use Rattle.std.proofs.lemmas.Option.{slice_get_within, get_or_from_slice_get}
use Rattle.rgo_typed.specs.declared.actions.Action.{Action}
use Rattle.rgo_typed.specs.declared.actions.Action.TheVariants as action
use Rattle.rgo_code.specs.Code.{CodeOp, CodeInstr, CodeFn, Do, Call, Go, Print, Jump, Branch, Return}
use Rattle.rgo_code.specs.NameRules.{InstrAscends, FnAscends, protected_names}
use Rattle.rgo_code.specs.Names.{edges}
use Rattle.rgo_code_text.specs.Building.{line_of_item, numbered_slot, numbered_action, numbered_op, numbered_instr}
use Rattle.rgo_code_text.specs.CodeLines.{Building, empty_building, no_function, with_line, with_lines}
use Rattle.rgo_code_text.specs.Items.{NamedSlot, Item, Head, Struct, Global, Function, Slot as SlotLine, Entry, Instr, End, ItemFits, NamedSlotFits}
use Rattle.rgo_code_printing.specs.Text.{Names}
use Rattle.rgo_code_text.specs.Written.{IsInstruction, ActionHasText, OpHasText, InstrHasText, SlotFits}
use Rattle.rgo_code_words.specs.Worded.{IsSmallNumber, AreRegions}

-- ---- lists

pub one_all : {A : Type 0} (P : A → Type 0) (x : A) → P x → All P (x ∷ [])
one_all P x p = All-push P [] x (All-nil P) p

pub got_all : {A : Type 0} (P : A → Type 0) (xs : List A) (i : ℕ) (x : A) → All P xs → slice_get xs i ≡ Some x → P x
got_all P xs i x a e = subst P (get_or_from_slice_get xs i x x e) (a i x (slice_get_within xs i x e))

contained_all : {A : Type 0} (P : A → Type 0) (xs : List A) (x : A) → All P xs → Contains xs x → P x
contained_all P xs x a (k, l, e) = subst P e (a k x l)

no_regions : AreRegions []
no_regions = (λ k l. absurd (omega (arith, l)), All-nil IsSmallNumber)

-- ---- numbers for names

instruction_same : (n : Names) (a : Action) (to : Option ℕ) (from name : List ℕ) → IsInstruction a to from
    → IsInstruction (numbered_action n a name) to from
instruction_same n (action.New k) (Some d) [] name f = λ e. cc
instruction_same n (action.New k) (Some d) (x ∷ from) name f = f
instruction_same n (action.New k) None from name f = f
instruction_same n (action.Get k) (Some d) [] name f = λ e. cc
instruction_same n (action.Get k) (Some d) (x ∷ from) name f = f
instruction_same n (action.Get k) None from name f = f
instruction_same n (action.Set k) None (x ∷ []) name f = λ e. cc
instruction_same n (action.Set k) None [] name f = f
instruction_same n (action.Set k) None (x ∷ y ∷ from) name f = f
instruction_same n (action.Set k) (Some d) from name f = f
instruction_same n _ to from name f = f

action_same : (n : Names) (a : Action) (name : List ℕ) → ActionHasText a → ActionHasText (numbered_action n a name)
action_same n (action.New k) name f = tt
action_same n (action.Get k) name f = tt
action_same n (action.Set k) name f = tt
action_same n _ name f = f

pub op_fits : (n : Names) (op : CodeOp) (name : List ℕ) → OpHasText op → OpHasText (numbered_op n op name)
op_fits n (Do to a from removes) name f =
    (instruction_same n a to from name f.0, action_same n a name f.1, f.2, f.3, f.4)
op_fits n (Call to k from passes protects removes) name f = f
op_fits n (Go k from passes removes) name f = f
op_fits n (Print pieces from removes) name f = f
op_fits n (Jump target removes) name f = f
op_fits n (Branch test target removes other otherwise) name f = f
op_fits n (Return value) name f = f

-- ---- functions

-- all but the number of its instructions
pub record PartsFit (f : CodeFn) : Type 0 where
  pub params : IsSmallNumber f.params
  pub result : IfSome f.result SlotFits
  pub variables : All SlotFits f.variables
  pub entry : AreRegions f.entry
  pub body : All InstrHasText f.body

pub record AllFit (b : Building) : Type 0 where
  pub functions : All PartsFit b.functions
  pub current : PartsFit b.current

none_fits : PartsFit no_function
none_fits = record {
  params = omega arith;
  result = tt;
  variables = All-nil SlotFits;
  entry = no_regions;
  body = All-nil InstrHasText;
}

pub nothing_fits : AllFit empty_building
nothing_fits = record { functions = All-nil PartsFit; current = none_fits }

result_fits : (n : Names) (s : Option NamedSlot) → IfSome s NamedSlotFits → IfSome (option_map (numbered_slot n) s) SlotFits
result_fits n None f = tt
result_fits n (Some s) f = f.1

pub grown_fits : (n : Names) (b : Building) (x : Item) → ItemFits x → AllFit b → AllFit (with_line b (line_of_item n x))
grown_fits n b Head f a = a
grown_fits n b (Struct name fields) f a = record { functions = a.functions; current = a.current }
grown_fits n b (Global name ty) f a = record { functions = a.functions; current = a.current }
grown_fits n b (Function name params slot) f a = record {
  functions = a.functions;
  current = record {
    params = f.1;
    result = result_fits n slot f.2;
    variables = All-nil SlotFits;
    entry = no_regions;
    body = All-nil InstrHasText;
  };
}
grown_fits n b (SlotLine slot) f a = record {
  functions = a.functions;
  current = record {
    params = a.current.params;
    result = a.current.result;
    variables = All-push SlotFits b.current.variables (numbered_slot n slot) a.current.variables f.1;
    entry = a.current.entry;
    body = a.current.body;
  };
}
grown_fits n b (Entry names) f a = record {
  functions = a.functions;
  current = record {
    params = a.current.params;
    result = a.current.result;
    variables = a.current.variables;
    entry = f;
    body = a.current.body;
  };
}
grown_fits n b (Instr i instr name) f a = record {
  functions = a.functions;
  current = record {
    params = a.current.params;
    result = a.current.result;
    variables = a.current.variables;
    entry = a.current.entry;
    body = All-push InstrHasText b.current.body (numbered_instr n instr name) a.current.body
        (f.1.0, f.1.1, op_fits n instr.op name f.1.2);
  };
}
grown_fits n b End f a = record {
  functions = All-push PartsFit b.functions b.current a.functions a.current;
  current = none_fits;
}

pub all_fit : (n : Names) (b : Building) (items : List Item) → All ItemFits items → AllFit b → AllFit (with_lines b (map (line_of_item n) items))
all_fit n b [] f a = a
all_fit n b (x ∷ items) f a =
    all_fit n (with_line b (line_of_item n x)) items (All-tail ItemFits x items f) (grown_fits n b x (All-head ItemFits x items f) a)

-- ---- lists of names ascend

protects_rise : (op : CodeOp) → OpHasText op → IsStrictlyIncreasing (protected_names op)
protects_rise (Call to k from passes protects removes) f = f.3.0
protects_rise (Do to a from removes) f = no_regions.0
protects_rise (Go k from passes removes) f = no_regions.0
protects_rise (Print pieces from removes) f = no_regions.0
protects_rise (Jump target removes) f = no_regions.0
protects_rise (Branch test target removes other otherwise) f = no_regions.0
protects_rise (Return value) f = no_regions.0

abbrev Rises : ℕ × List ℕ → Type 0
Rises edge = IsStrictlyIncreasing edge.1

edges_rise : (op : CodeOp) (i : ℕ) → OpHasText op → All Rises (edges op i)
edges_rise (Do to a from removes) i f = one_all Rises (i + 1, removes) f.4.0
edges_rise (Call to k from passes protects removes) i f = one_all Rises (i + 1, removes) f.4.0
edges_rise (Go k from passes removes) i f = one_all Rises (i + 1, removes) f.2.0
edges_rise (Print pieces from removes) i f = one_all Rises (i + 1, removes) f.3.0
edges_rise (Jump target removes) i f = one_all Rises (target, removes) f.1.0
edges_rise (Branch test target removes other otherwise) i f =
    All-push Rises ((target, removes) ∷ []) (other, otherwise) (one_all Rises (target, removes) f.2.0) f.4.0
edges_rise (Return value) i f = All-nil Rises

instr_ascends : (i : ℕ) (instr : CodeInstr) → InstrHasText instr → InstrAscends i instr
instr_ascends i instr f = record {
  creates = f.1.0;
  protects = protects_rise instr.op f.2;
  removes = λ j removes c. contained_all Rises (edges instr.op i) (j, removes) (edges_rise instr.op i f.2) c;
}

pub fits_ascends : (fs : List CodeFn) → All PartsFit fs → (n : ℕ) (f : CodeFn) → slice_get fs n ≡ Some f → FnAscends f
fits_ascends fs a n f e =
    let p = got_all PartsFit fs n f a e in
    record {
      entry = p.entry.0;
      body = λ i instr g. instr_ascends i instr (got_all InstrHasText f.body i instr p.body g);
    }
