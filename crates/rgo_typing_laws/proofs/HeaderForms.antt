-- The statements of headers by their forms: simple statements contain no `break` and no header of their own.
use Rattle.std.proofs.Common.{◌≡◌, false, refl}
use Rattle.rgo_ast.specs.Tree as tree
use Rattle.rgo_ast.specs.Tree.{Clause}
use Rattle.rgo_types.specs.Flow.{clause_breaks}
use Rattle.rgo_typing_laws.specs.Headers.{IsInit, IsPost, ClauseHasHeaders}

pub init_headers : (init : Clause) → IsInit init → ClauseHasHeaders init
init_headers tree.no_clause k = tt
init_headers (tree.a_clause (tree.Plain e)) k = tt
init_headers (tree.a_clause (tree.Send a b at)) k = tt
init_headers (tree.a_clause (tree.Step op e at)) k = tt
init_headers (tree.a_clause (tree.Assign op a b at)) k = tt
init_headers (tree.a_clause (tree.Define x e at)) k = tt
init_headers (tree.a_clause s) k = absurd k

pub init_breaks : (init : Clause) → IsInit init → clause_breaks init ≡ false
init_breaks tree.no_clause k = refl
init_breaks (tree.a_clause (tree.Plain e)) k = refl
init_breaks (tree.a_clause (tree.Send a b at)) k = refl
init_breaks (tree.a_clause (tree.Step op e at)) k = refl
init_breaks (tree.a_clause (tree.Assign op a b at)) k = refl
init_breaks (tree.a_clause (tree.Define x e at)) k = refl
init_breaks (tree.a_clause s) k = absurd k

-- a post statement is a simple statement
pub post_init : (post : Clause) → IsPost post → IsInit post
post_init tree.no_clause k = tt
post_init (tree.a_clause (tree.Plain e)) k = tt
post_init (tree.a_clause (tree.Send a b at)) k = tt
post_init (tree.a_clause (tree.Step op e at)) k = tt
post_init (tree.a_clause (tree.Assign op a b at)) k = tt
post_init (tree.a_clause s) k = absurd k
