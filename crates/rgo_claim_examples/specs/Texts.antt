-- Texts that are programs, and one that is rejected: here the definitions of lexing, parsing and typing are applied to real texts,
-- layout included.
use Rattle.std.specs.Prelude.{◌≡◌, ℕ, codes, List, ◌++◌}
use Rattle.rgo_lexer.specs.declared.refusals.LexicalKind.TheVariants.{BadByte}
use Rattle.rgo_typed.specs.Tree.{Typed}
use Rattle.rgo_run.specs.declared.refusals.TextRefusal.{TextRefusal}
use Rattle.rgo_run.specs.declared.refusals.TextRefusal.TheVariants.{Lexical}
use Rattle.rgo_run.specs.Verdicts.{IsTypedProgram, IsValidProgram, Refused}
use Rattle.rgo_claim_examples.specs.Programs.{one_object, linked_list, binary_tree, sender, endless}

-- ---- the texts of programs

abbrev pub object_text : List ℕ
object_text =
    codes "package main\n\nimport \"fmt\"\n\ntype Node struct {\n\tvalue int\n\tnext  *Node\n}\n\n"
    ++ (codes "func main() {\n\tx := new(Node)\n\tfmt.Println(x.value)\n}\n")

abbrev pub list_text : List ℕ
list_text =
    codes "package main\n\nimport \"fmt\"\n\ntype Node struct {\n\tvalue int\n\tnext  *Node\n}\n\n"
    ++ (codes "func main() {\n\tvar list *Node\n\tfor i := 1; i < 4; i++ {\n\t\tlist = &Node{i, list}\n\t}\n"
    ++ (codes "\tsum := 0\n\tfor list != nil {\n\t\tsum += list.value\n\t\tlist = list.next\n\t}\n"
    ++ (codes "\tfmt.Println(sum)\n}\n")))

abbrev pub tree_text : List ℕ
tree_text =
    codes "package main\n\nimport \"fmt\"\n\ntype Tree struct {\n\tleft  *Tree\n\tright *Tree\n}\n\n"
    ++ (codes "func build(depth int) *Tree {\n\tif depth == 0 {\n\t\treturn nil\n\t}\n"
    ++ (codes "\treturn &Tree{build(depth - 1), build(depth - 1)}\n}\n\nfunc count(tree *Tree) int {\n"
    ++ (codes "\tif tree == nil {\n\t\treturn 0\n\t}\n\treturn 1 + count(tree.left) + count(tree.right)\n}\n\n"
    ++ (codes "func main() {\n\tfmt.Println(count(build(2)))\n}\n"))))

abbrev pub sender_text : List ℕ
sender_text =
    codes "package main\n\nimport \"fmt\"\n\nfunc send(c chan int) {\n\tc <- 7\n}\n\nfunc main() {\n"
    ++ (codes "\tc := make(chan int)\n\tgo send(c)\n\tfmt.Println(<-c)\n}\n")

-- an endless loop
abbrev pub endless_text : List ℕ
endless_text = codes "package main\n\nfunc main() {\n\tfor {\n\t}\n}\n"

-- a byte that begins no token
abbrev pub bad_text : List ℕ
bad_text = codes "?"

pub record TextExamples : Type 0 where
  -- the texts of programs for which the default options suffice
  pub object : IsTypedProgram object_text one_object
  pub list : IsTypedProgram list_text linked_list
  pub tree : IsTypedProgram tree_text binary_tree
  pub goroutines : IsTypedProgram sender_text sender
  pub is_program : IsTypedProgram endless_text endless
  -- it has no other program, and no refusal
  pub no_other : (program : Typed) → IsTypedProgram endless_text program → program ≡ endless
  pub not_refused : (why : TextRefusal) → Refused endless_text why → ⊥
  pub refused : Refused bad_text (Lexical (record { kind = BadByte; at = 0 }))
  pub does_not_pass : IsValidProgram bad_text → ⊥
