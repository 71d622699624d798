-- A device of the proof, which no public contract cites: what the code hands on without where it lies in memory.
use Rattle.std.specs.Prelude.{ℕ, List, Option, Some, None, Result, Ok, Err}
use Rattle.std.specs.Borrow.{Bor}
use Rattle.sudoers_cvt_rewrite.specs.declared.filter_text.FilterKey.{FilterKey}
use Rattle.sudoers_cvt_rewrite.specs.declared.filter_text.FilterPair.{FilterPair}
use Rattle.sudoers_cvt_rewrite.specs.declared.filter_text.FilterFault.{FilterFault}

-- two parts of a text
abbrev pub text_parts_of_view : Option (Bor (List ℕ) × Bor (List ℕ)) → Option (List ℕ × List ℕ)
text_parts_of_view None = None
text_parts_of_view (Some parts) = Some (parts.0.now, parts.1.now)

abbrev pub filter_pair_of_view : FilterPair → FilterKey × List ℕ
filter_pair_of_view p = (p.key, p.value.now)

abbrev pub filter_pair_result_of_view : Result FilterPair FilterFault → Result (FilterKey × List ℕ) FilterFault
filter_pair_result_of_view (Ok p) = Ok (filter_pair_of_view p)
filter_pair_result_of_view (Err fault) = Err fault
