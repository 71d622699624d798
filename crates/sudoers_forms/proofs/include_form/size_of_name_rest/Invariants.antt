use Rattle.std.proofs.Common.{◌≡◌, ◌≤◌, ◌+◌, drop, false}
use Rattle.sudoers_forms.specs.Includes.{size_of_name_rest}
use Rattle.sudoers_forms.proofs.include_form.size_of_name_rest.Given as goal

abbrev pub invariant-loop-byte : goal.invariant-loop-byte
invariant-loop-byte l = record {
  within : l.size ≤ l.byte-index;
  same : l.size + size_of_name_rest l.is_escaped (drop l.byte-index l.bytes) ≡ size_of_name_rest false l.bytes;
}
