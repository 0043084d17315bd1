-- How errors are converted: from those of a stage to those of a text, and from those to endings.
use Rattle.rgo_command_line.specs.declared.commands.WordsError.{WordsError}
use Rattle.rgo_command_line.specs.declared.commands.WordsError.TheVariants as words
use Rattle.rgo_outside.specs.declared.whole.ReadEnd.{ReadEnd}
use Rattle.rgo_outside.specs.declared.whole.ReadEnd.TheVariants as read
use Rattle.rgo_lexer.specs.declared.refusals.LexError.{LexError}
use Rattle.rgo_lexer.specs.declared.refusals.LexError.TheVariants as lex
use Rattle.rgo_typing_rules.specs.declared.errors.TypeError.{TypeError}
use Rattle.rgo_typing_rules.specs.declared.errors.TypeError.TheVariants as type
use Rattle.rgo_code_text.specs.declared.refusals.ReadError.{ReadError}
use Rattle.rgo_code_text.specs.declared.refusals.ReadError.TheVariants as reading
use Rattle.rgo_checker.specs.declared.errors.CheckError.{CheckError}
use Rattle.rgo_checker.specs.declared.errors.CheckError.TheVariants as check
use Rattle.rgo_run.specs.declared.endings.TextKind.{TextKind}
use Rattle.rgo_run.specs.declared.endings.TextKind.TheVariants as text_kind
use Rattle.rgo_run.specs.declared.endings.Ending.{Ending}
use Rattle.rgo_run.specs.declared.endings.Ending.TheVariants.{Usage, ReadFault, Refused, CodeRefused, NoMemory}
use Rattle.rgo_run.specs.declared.refusals.CodeTextError.{CodeTextError}
use Rattle.rgo_run.specs.declared.refusals.CodeTextError.TheVariants as code_text
use Rattle.rgo_run.specs.declared.refusals.CodeTextRefusal.TheVariants as code_refusal
use Rattle.rgo_run.specs.declared.refusals.TextError.{TextError}
use Rattle.rgo_run.specs.declared.refusals.TextError.TheVariants as text
use Rattle.rgo_run.specs.declared.refusals.TextRefusal.TheVariants as refusal

-- ---- errors of a text

abbrev pub lex_error : LexError → TextError
lex_error (lex.Refused why) = text.Refused (refusal.Lexical why)
lex_error lex.NoMemory = text.NoMemory

abbrev pub type_error : TypeError → TextError
type_error (type.Refused why) = text.Refused (refusal.Typing why)
type_error type.NoMemory = text.NoMemory

abbrev pub reading_error : ReadError → CodeTextError
reading_error (reading.Refused why) = code_text.Refused (code_refusal.NoForm why.line)
reading_error reading.NoMemory = code_text.NoMemory
reading_error reading.TooLarge = code_text.Refused code_refusal.TooLong

-- code with more lines than the checker can number has a text that is longer than a code text may be
abbrev pub check_error : CheckError → CodeTextError
check_error (check.Refused why) = code_text.Refused (code_refusal.Breaks why)
check_error check.TooLarge = code_text.Refused code_refusal.TooLong
check_error check.NoMemory = code_text.NoMemory

-- ---- endings

abbrev pub text_error : TextError → Ending
text_error (text.Refused why) = Refused why
text_error text.NoMemory = NoMemory

abbrev pub code_text_error : CodeTextError → Ending
code_text_error (code_text.Refused why) = CodeRefused why
code_text_error code_text.NoMemory = NoMemory

abbrev pub command_error : WordsError → Ending
command_error words.Usage = Usage
command_error words.NoMemory = NoMemory

-- the ending if the source had more bytes than a text of this kind may have
abbrev pub too_long : TextKind → Ending
too_long text_kind.Go = Refused refusal.TooLong
too_long text_kind.Code = CodeRefused code_refusal.TooLong

abbrev pub read_error : TextKind → ReadEnd → Ending
read_error kind read.Fault = ReadFault
read_error kind read.TooLong = too_long kind
read_error kind read.NoMemory = NoMemory
