-- The views: the plain data that contracts see in place of the code's borrowed types and nodes.
use Rattle.std.specs.Prelude.{Option, Some, None, map, List}
use denote.Ref.{Bor}
use Rattle.rgo_ast.specs.Views.{type_expr_of}
use Rattle.rgo_typed.specs.declared.types.Type.{«Type»}
use Rattle.rgo_typing_rules.specs.declared.kinds.Kind.{Kind}
use Rattle.rgo_typing_rules.specs.declared.kinds.Kind.TheVariants as kind
use Rattle.rgo_typing_rules.specs.declared.shapes.Shape.{Shape as CodeShape}
use Rattle.rgo_typing_rules.specs.declared.shapes.Shape.TheVariants as code_shape
use Rattle.rgo_typing_rules.specs.declared.meanings.Signature.{Signature as CodeSignature}
use Rattle.rgo_typing_rules.specs.declared.nodes.Node.{Node as CodeNode}
use Rattle.rgo_typing_rules.specs.declared.nodes.Node.TheVariants as code
use Rattle.rgo_typing_rules.specs.Types.{plain, slice_of, chan_of, spelled}
use Rattle.rgo_typing_rules.specs.Shapes as shape
use Rattle.rgo_typing_rules.specs.Shapes.{Shape}
use Rattle.rgo_typing_rules.specs.Meanings.{Signature}
use Rattle.rgo_typing_rules.specs.Nodes as node
use Rattle.rgo_typing_rules.specs.Nodes.{Node}

abbrev pub type_of_kind : Kind → «Type»
type_of_kind (kind.Plain base) = plain base
type_of_kind (kind.Slice element base) = slice_of (spelled (type_expr_of element.now) base)
type_of_kind (kind.Chan element base) = chan_of (spelled (type_expr_of element.now) base)

abbrev pub shape_of : CodeShape → Shape
shape_of code_shape.Untyped = shape.Untyped
shape_of code_shape.Nil = shape.Nil
shape_of code_shape.Text = shape.Text
shape_of code_shape.NoResult = shape.NoResult
shape_of (code_shape.Constant n) = shape.Constant n
shape_of (code_shape.Value kind) = shape.Value (type_of_kind kind)

abbrev pub optional_kind_of : Option Kind → Option «Type»
optional_kind_of None = None
optional_kind_of (Some k) = Some (type_of_kind k)

abbrev pub optional_shape_of : Option CodeShape → Option Shape
optional_shape_of None = None
optional_shape_of (Some s) = Some (shape_of s)

abbrev pub signature_of_kinds : CodeSignature → Signature
signature_of_kinds s = record { params = map type_of_kind s.params.items; result_type = optional_kind_of s.result_type }

abbrev pub fields_of : Option (Bor (List Kind)) → Option (List «Type»)
fields_of None = None
fields_of (Some fields) = Some (map type_of_kind fields.now)

abbrev pub known_of : Option (Bor (List (Option Kind))) → Option (List (Option «Type»))
known_of None = None
known_of (Some fields) = Some (map optional_kind_of fields.now)

abbrev pub node_of : CodeNode → Node
node_of (code.Import again path) = node.Import again path.now
node_of (code.Declared again name) = node.Declared again name.now
node_of (code.End has_result is_terminating) = node.End has_result is_terminating
node_of (code.TextEnd has_main) = node.TextEnd has_main
node_of (code.TypeName m) = node.TypeName m
node_of (code.BaseName m) = node.BaseName m
node_of (code.Pointed m) = node.Pointed m
node_of (code.Number n) = node.Number n
node_of (code.Text r) = node.Text r
node_of (code.Name r m) = node.Name r m
node_of (code.Size s) = node.Size (shape_of s)
node_of (code.Selector there) = node.Selector there
node_of (code.Index a i) = node.Index (shape_of a) (shape_of i)
node_of (code.Unary op s) = node.Unary op (shape_of s)
node_of (code.Binary op a b) = node.Binary op (shape_of a) (shape_of b)
node_of (code.Literal fields values) = node.Literal (fields_of fields) (map shape_of values.now)
node_of (code.Keyed fields twice values) = node.Keyed (known_of fields) twice (map shape_of values.now)
node_of code.CallMissing = node.CallMissing
node_of code.CallNothing = node.CallNothing
node_of (code.Call r s args) = node.Call r (signature_of_kinds s.now) (map shape_of args.now)
node_of (code.CallBuiltin b r args) = node.CallBuiltin b r (map shape_of args.now)
node_of (code.Alone may_stand) = node.Alone may_stand
node_of (code.Send c s) = node.Send (shape_of c) (shape_of s)
node_of (code.Assign at_place a b) = node.Assign at_place (shape_of a) (shape_of b)
node_of (code.Update op at_place a b) = node.Update op at_place (shape_of a) (shape_of b)
node_of (code.Define s) = node.Define (shape_of s)
node_of (code.DefineAs k s) = node.DefineAs (type_of_kind k) (shape_of s)
node_of (code.Condition s) = node.Condition (shape_of s)
node_of (code.Go s args) = node.Go (signature_of_kinds s.now) (map shape_of args.now)
node_of code.GoNothing = node.GoNothing
node_of (code.Return wanted given) = node.Return (optional_kind_of wanted) (optional_shape_of given)
node_of (code.Branch in_loop) = node.Branch in_loop
