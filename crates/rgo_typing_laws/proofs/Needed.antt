-- A tree that no text parses to: `func main() { for ; ; x := 1 { x = 2 } }`. It breaks no rule and its typed tree is not well-formed, so
-- the law needs its premise on headers.
use Rattle.std.proofs.Common.{◌≡◌, [], ◌∷◌, None, codes, refl, sym, true≢false}
use Rattle.rgo_ast.specs.Tree as tree
use Rattle.rgo_ast.specs.Tree.{Program, Stmt}
use Rattle.rgo_ast.specs.declared.names.Ident.{Ident}
use Rattle.rgo_ast.specs.declared.ops.AssignOp.TheVariants.{Plain}
use Rattle.rgo_typing_rules.specs.Rules.{broken}
use Rattle.rgo_typing_rules.specs.Sites.{first_refusal}
use Rattle.rgo_types.specs.Programs.{sites_of, typed_program}
use Rattle.rgo_wellformed.specs.WellFormed.{IsWellFormed}
use Rattle.rgo_typing_laws.specs.Laws.{HeadersAreNeeded}

abbrev x : Ident
x = record { name = codes "x"; at = 0 }

abbrev the_loop : Stmt
the_loop =
    tree.For tree.no_clause None (tree.a_clause (tree.Define x (tree.Number 1 0) 0))
    (tree.a_stmt (tree.Assign Plain (tree.Name x) (tree.Number 2 0) 0) tree.no_stmts) 0

abbrev loops : Program
loops = record {
  imports = [];
  decls = tree.Func (record {
    name = record { name = codes "main"; at = 0 };
    params = [];
    result_type = None;
    body = the_loop ∷ [];
    at = 0;
    end = 0;
  }) ∷ [];
  end = 0;
}

unbroken : first_refusal (sites_of loops) ≡ None
unfolding broken
unbroken = refl

not_well : IsWellFormed (typed_program loops) → ⊥
not_well h = true≢false (sym h.functions.0.body.0.1.0.1)

pub headers_are_needed : HeadersAreNeeded
headers_are_needed = (loops, unbroken, not_well)
