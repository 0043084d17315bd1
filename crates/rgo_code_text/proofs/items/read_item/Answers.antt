use Rattle.std.proofs.Common.{◌≡◌, Option, sym, ap, ◌∙◌, take}
use Rattle.std.specs.List.{before_first}
use Rattle.std.specs.Option.{option_map}
use Rattle.rgo_code_text.specs.declared.items.Item.{Item as CodeItem}
use Rattle.rgo_code_words.specs.Cuts.{is_space, cut_line, nows}
use Rattle.rgo_code_text.specs.Items.{ItemFits, item_line}
use Rattle.rgo_code_words.specs.Readers.{IsReadFromBytes}
use Rattle.rgo_code_text.specs.Views.{item_of}
use Rattle.rgo_code_text.proofs.line_forms.LinesBack.{head_read, end_read}
use Rattle.rgo_code_words.proofs.Options.{if_ok}
use Rattle.rgo_code_text.proofs.items.read_item.Goals as goal

pub returns-then-is : goal.returns-then-is
returns-then-is c = head_read c.args.line.now (sym c.is.ensures ∙ c.if-is.true)

pub returns-then-is-2 : goal.returns-then-is-2
returns-then-is-2 c = end_read c.args.line.now (sym c.is-2.ensures ∙ c.if-is-2.true)

pub returns : goal.returns
returns c =
    let line = c.args.line.now in
    let word = take c.len_to.result line in
    let first : before_first is_space line ≡ word = ap (λ n. take n line) (sym c.len_to.ensures.len) in
    let words_are : nows c.deref.result.now ≡ cut_line c.spaces.result line = ap nows c.deref.ensures.value ∙ c.in_ok-words.ensures in
    if_ok c.worded_item.result _ (λ (r : Option CodeItem). IsReadFromBytes ItemFits item_line line (option_map item_of r)) c.worded_item.ensures
    (λ r i. i line (record {
      first = first;
      words_are = words_are ∙ ap (λ n. cut_line n line) c.spaces.ensures;
      not_head = sym c.is.ensures ∙ c.if-is.false;
      not_end = sym c.is-2.ensures ∙ c.if-is-2.false;
    }))
