-- What the result of a parse by `clap` says about the command that the words ask for.
use Rattle.std.proofs.Common.{◌≡◌, ◌≢◌, cond, true, refl, List, [], ◌∷◌, None, inl, inr}
use Rattle.clap.specs.Words.{HasKind, Kinds, Text, fault_of, is_simple_and_free, kind_of, subcommand_of}
use Rattle.clap.specs.declared.error.Error.{Error}
use Rattle.clap.specs.declared.error.kind.ErrorKind.TheVariants.{OutOfMemory}
use Rattle.rgo_command_line.specs.Commands.{command_met, command_of, has_fault}
use Rattle.rgo_command_line.specs.Parser.{parser}

-- what `clap` says of a command line is exact of this one
pub is_exact : is_simple_and_free parser ≡ true
is_exact = refl

-- words at which a parse fails for another cause than memory ask for nothing
pub refused : (words : List Text) (error : Error)
    → HasKind (fault_of parser words) error
    → kind_of error ≢ OutOfMemory
    → command_of words ≡ None
refused words error kind not_memory = by_kinds (fault_of parser words) kind
  where
    by_kinds : (kinds : Kinds)
        → HasKind kinds error
        → cond (has_fault kinds) None (command_met (subcommand_of parser words)) ≡ None
    by_kinds [] (inl memory) = absurd (not_memory memory)
    by_kinds [] (inr none) = absurd none
    by_kinds (x ∷ xs) _ = refl
