use Rattle.std.proofs.Common.{◌≡◌, ◌≤◌, ◌+◌, drop, false}
use Rattle.std.specs.Prelude.{nat_eq, if◌then◌else◌}
use Rattle.sudoers_forms.specs.Forms.{size_of_regex_rest}
use Rattle.sudoers_forms.proofs.member_form.size_of_regex_rest.Given as goal

-- Where no `$` follows, the last one with a backslash before it counts.
abbrev pub invariant-loop-byte : goal.invariant-loop-byte
invariant-loop-byte l = record {
  within : l.size ≤ l.byte-index;
  found_within : l.found ≤ l.size;
  same : (if nat_eq (size_of_regex_rest l.is_escaped (drop l.byte-index l.bytes)) 0 then l.found else l.size + size_of_regex_rest l.is_escaped (drop l.byte-index l.bytes))
      ≡ size_of_regex_rest false l.bytes;
}
