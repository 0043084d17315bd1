use Rattle.rgo_size_laws.proofs.Lexemes.{lexemes_few}
use Rattle.rgo_size_laws.proofs.Programs.{size_linear, never_large}
use Rattle.rgo_size_laws.proofs.laws.size_is_linear.Goals as goal

pub returns : goal.returns
returns c = record { lexemes = lexemes_few; size = size_linear; small = never_large }
