use Rattle.std.proofs.Common.{◌≡◌, ◌++◌, drop, map}
use Rattle.std.specs.List.{filter_map}
use Rattle.serde_json.specs.Data.{string}
use Rattle.sudoers_cvt_json.specs.internal.Built.{are_values_unicode, tokens_of_items_and_end, printed_tag_text_if_given}
use Rattle.sudoers_cvt_json.proofs.output.JsonOutput.write_given_tags.Given as goal

abbrev pub invariant-loop-tag : goal.invariant-loop-tag
invariant-loop-tag l = record {
  before : l.self.writer.before ≡ l.initial.self.writer.before;
  text : l.self.writer.tokens ++ tokens_of_items_and_end (map string (filter_map printed_tag_text_if_given (drop l.tag-index l.pairs)))
      ≡ l.initial.self.writer.tokens ++ tokens_of_items_and_end (map string (filter_map printed_tag_text_if_given l.pairs));
  unicode : are_values_unicode (map string (filter_map printed_tag_text_if_given (drop l.tag-index l.pairs)))
      ≡ are_values_unicode (map string (filter_map printed_tag_text_if_given l.pairs));
}
