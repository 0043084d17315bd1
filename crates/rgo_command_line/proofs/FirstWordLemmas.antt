-- A first word that names no command asks for nothing, whatever follows it.
use Rattle.std.proofs.Common.{◌≡◌, refl, ap, codes, cond, Bool, true, false, List, [], ◌∷◌, None}
use Rattle.std.specs.Prelude.{find}
use Rattle.std.specs.Str.{bytes_eq}
use Rattle.clap.specs.Words.{Text, built, fault_of, subcommand_of}
use Rattle.clap.specs.Simple.{names_of}
use Rattle.clap.specs.Walk.{Names, answers_to}
use Rattle.clap.proofs.OnLiterals.{clap_on_literals}
use Rattle.rgo_command_line.specs.Commands.{command_met, command_of, has_fault}
use Rattle.rgo_command_line.specs.Parser.{parser}
use Rattle.rgo_command_line.proofs.StrayLemmas.{stray, with_first}

abbrev names : Names
names = names_of (built parser)

-- the word is the name of no command
pub record IsNoName (w : Text) : Type 0 where
  pub run : bytes_eq (codes "run") w ≡ false
  pub check : bytes_eq (codes "check") w ≡ false
  pub emit : bytes_eq (codes "emit") w ≡ false
  pub code : bytes_eq (codes "code") w ≡ false
  pub big : bytes_eq (codes "big") w ≡ false
  pub recorded : bytes_eq (codes "record") w ≡ false
  pub replay : bytes_eq (codes "replay") w ≡ false
  pub run_code : bytes_eq (codes "runcode") w ≡ false

no_name : (w : Text) → IsNoName w → find (answers_to w) names ≡ None
no_name w is = rw (is.run, is.check, is.emit, is.code, is.big, is.recorded, is.replay, is.run_code) refl

pub other_word : (program w : Text) (rest : List Text) → IsNoName w → command_of (program ∷ w ∷ rest) ≡ None
unfolding clap_on_literals
other_word program w rest is = by_dashes rest (bytes_eq w (codes "--")) refl
  where
    none : find (answers_to w) names ≡ None
    none = no_name w is

    refused : (r : List Text)
        → bytes_eq w (codes "--") ≡ false
        → has_fault (fault_of parser (program ∷ w ∷ r)) ≡ true
    refused r e = with_first _ _ (with_first _ _ (stray (built parser).top [] None false false names w none e tt))

    by_dashes : (r : List Text) (b : Bool) → bytes_eq w (codes "--") ≡ b → command_of (program ∷ w ∷ r) ≡ None
    by_dashes r false e =
        ap (λ b. cond b None (command_met (subcommand_of parser (program ∷ w ∷ r)))) (refused r e)
    by_dashes [] true e = rw (none, e) refl
    by_dashes (x ∷ xs) true e = rw (none, e) refl
