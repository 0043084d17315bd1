-- The numbers and names of the rules on meaning.
use Rattle.std.specs.Prelude.{ℕ, List, codes}
use Rattle.rgo_typing_rules.specs.declared.rules.Rule.{Rule}
use Rattle.rgo_typing_rules.specs.declared.rules.Rule.TheVariants.{BadImport, Redeclared}
use Rattle.rgo_typing_rules.specs.declared.rules.Rule.TheVariants.{ReservedName, NoSuchName}
use Rattle.rgo_typing_rules.specs.declared.rules.Rule.TheVariants.{NotType, StructByValue}
use Rattle.rgo_typing_rules.specs.declared.rules.Rule.TheVariants.{PointerBase, NotValue}
use Rattle.rgo_typing_rules.specs.declared.rules.Rule.TheVariants.{StringPlace, Mismatch}
use Rattle.rgo_typing_rules.specs.declared.rules.Rule.TheVariants.{SliceCompare, BareNil}
use Rattle.rgo_typing_rules.specs.declared.rules.Rule.TheVariants.{NotAssignable, NotPlace}
use Rattle.rgo_typing_rules.specs.declared.rules.Rule.TheVariants.{NoSuchField, NotIndexable}
use Rattle.rgo_typing_rules.specs.declared.rules.Rule.TheVariants.{NotCall, ArgCount, NoResult}
use Rattle.rgo_typing_rules.specs.declared.rules.Rule.TheVariants.{NotStatement, GoTarget}
use Rattle.rgo_typing_rules.specs.declared.rules.Rule.TheVariants.{NotChannel, NotBool, NotInt}
use Rattle.rgo_typing_rules.specs.declared.rules.Rule.TheVariants.{ConstRange, ConstZeroDivisor}
use Rattle.rgo_typing_rules.specs.declared.rules.Rule.TheVariants.{ConstIndex, ConstSize}
use Rattle.rgo_typing_rules.specs.declared.rules.Rule.TheVariants.{LiteralFields, PrintType}
use Rattle.rgo_typing_rules.specs.declared.rules.Rule.TheVariants.{ReturnCount, MissingReturn}
use Rattle.rgo_typing_rules.specs.declared.rules.Rule.TheVariants.{LoopOutside, NoMain}

-- the number of a rule, as in `type 32 MissingReturn`; a node is checked against the rules in this order
abbrev pub typing_rule_number : Rule → ℕ
typing_rule_number BadImport = 1
typing_rule_number Redeclared = 2
typing_rule_number ReservedName = 3
typing_rule_number NoSuchName = 4
typing_rule_number NotType = 5
typing_rule_number StructByValue = 6
typing_rule_number PointerBase = 7
typing_rule_number NotValue = 8
typing_rule_number StringPlace = 9
typing_rule_number Mismatch = 10
typing_rule_number SliceCompare = 11
typing_rule_number BareNil = 12
typing_rule_number NotAssignable = 13
typing_rule_number NotPlace = 14
typing_rule_number NoSuchField = 15
typing_rule_number NotIndexable = 16
typing_rule_number NotCall = 17
typing_rule_number ArgCount = 18
typing_rule_number NoResult = 19
typing_rule_number NotStatement = 20
typing_rule_number GoTarget = 21
typing_rule_number NotChannel = 22
typing_rule_number NotBool = 23
typing_rule_number NotInt = 24
typing_rule_number ConstRange = 25
typing_rule_number ConstZeroDivisor = 26
typing_rule_number ConstIndex = 27
typing_rule_number ConstSize = 28
typing_rule_number LiteralFields = 29
typing_rule_number PrintType = 30
typing_rule_number ReturnCount = 31
typing_rule_number MissingReturn = 32
typing_rule_number LoopOutside = 33
typing_rule_number NoMain = 34

-- its name, as bytes
abbrev pub typing_rule_name : Rule → List ℕ
typing_rule_name BadImport = codes "BadImport"
typing_rule_name Redeclared = codes "Redeclared"
typing_rule_name ReservedName = codes "ReservedName"
typing_rule_name NoSuchName = codes "NoSuchName"
typing_rule_name NotType = codes "NotType"
typing_rule_name StructByValue = codes "StructByValue"
typing_rule_name PointerBase = codes "PointerBase"
typing_rule_name NotValue = codes "NotValue"
typing_rule_name StringPlace = codes "StringPlace"
typing_rule_name Mismatch = codes "Mismatch"
typing_rule_name SliceCompare = codes "SliceCompare"
typing_rule_name BareNil = codes "BareNil"
typing_rule_name NotAssignable = codes "NotAssignable"
typing_rule_name NotPlace = codes "NotPlace"
typing_rule_name NoSuchField = codes "NoSuchField"
typing_rule_name NotIndexable = codes "NotIndexable"
typing_rule_name NotCall = codes "NotCall"
typing_rule_name ArgCount = codes "ArgCount"
typing_rule_name NoResult = codes "NoResult"
typing_rule_name NotStatement = codes "NotStatement"
typing_rule_name GoTarget = codes "GoTarget"
typing_rule_name NotChannel = codes "NotChannel"
typing_rule_name NotBool = codes "NotBool"
typing_rule_name NotInt = codes "NotInt"
typing_rule_name ConstRange = codes "ConstRange"
typing_rule_name ConstZeroDivisor = codes "ConstZeroDivisor"
typing_rule_name ConstIndex = codes "ConstIndex"
typing_rule_name ConstSize = codes "ConstSize"
typing_rule_name LiteralFields = codes "LiteralFields"
typing_rule_name PrintType = codes "PrintType"
typing_rule_name ReturnCount = codes "ReturnCount"
typing_rule_name MissingReturn = codes "MissingReturn"
typing_rule_name LoopOutside = codes "LoopOutside"
typing_rule_name NoMain = codes "NoMain"
