use Rattle.std.proofs.Common.{◌≡◌, ◌≢◌, ℕ, ◌+◌, ◌<◌, ◌≤◌, Bool, false, ◌&&◌, List, [], ◌∷◌, length, drop, get_or, sym, ap, ◌∙◌, arith}
use Rattle.std.specs.Prelude.{◌==◌}
use Rattle.std.proofs.lemmas.List.{drop_more, drop_all}
use Rattle.std.proofs.lemmas.Bool.{ne_eqb, eq-eqb}
use Rattle.sudoers_match_member.specs.Class.{has_bracketed_class_name_prefix}
use Rattle.sudoers_match_member.specs.Folded.{byte_case_folded_if_wanted, bytes_case_folded_if_wanted}
use Rattle.sudoers_match_member.proofs.AsRead.{case_folding_keeps_length, byte_of_folded_bytes_is_folded_byte}
use Rattle.sudoers_match_member.proofs.byte_classes.begins_with_bracketed_class_name.Goals as goal
use Rattle.sudoers_match_member.proofs.byte_classes.begins_with_bracketed_class_name.Goals.{then-index-bytes-via-then-index-bytes, then-index-bytes-via-else-index-bytes+then-fold_byte_case_if_wanted-byte}

next : (xs name : List ℕ) (i : ℕ) → i < length xs → i < length name
    → has_bracketed_class_name_prefix (drop i xs) (drop i name) ≡ ((get_or xs i 0 == get_or name i 0) && has_bracketed_class_name_prefix (drop (i + 1) xs) (drop (i + 1) name))
next xs name i h k =
    ap (λ ys. has_bracketed_class_name_prefix ys (drop i name)) (drop_more xs i 0 h) ∙ ap (has_bracketed_class_name_prefix (get_or xs i 0 ∷ drop (i + 1) xs)) (drop_more name i 0 k)

short : (xs name : List ℕ) (i : ℕ) → length xs ≤ i → i < length name → has_bracketed_class_name_prefix (drop i xs) (drop i name) ≡ false
short xs name i h k = ap (λ ys. has_bracketed_class_name_prefix ys (drop i name)) (drop_all i xs h) ∙ ap (has_bracketed_class_name_prefix []) (drop_more name i 0 k)

differs : (lower : Bool) (bytes name : List ℕ) (i : ℕ) → i < length bytes → i < length name → byte_case_folded_if_wanted lower (get_or bytes i 0) ≢ get_or name i 0
    → has_bracketed_class_name_prefix (drop i (bytes_case_folded_if_wanted lower bytes)) (drop i name) ≡ false
differs lower bytes name i h k n =
    next (bytes_case_folded_if_wanted lower bytes) name i (omega (arith, case_folding_keeps_length lower bytes)) k
    ∙ ap (λ t. t && has_bracketed_class_name_prefix (drop (i + 1) (bytes_case_folded_if_wanted lower bytes)) (drop (i + 1) name)) (ap (λ b. b == get_or name i 0) (byte_of_folded_bytes_is_folded_byte lower bytes i h) ∙ ne_eqb (byte_case_folded_if_wanted lower (get_or bytes i 0)) (get_or name i 0) n)

pub returns-then-index-bytes : goal.returns-then-index-bytes
returns-then-index-bytes c =
    let bytes = c.args.bytes.now in let name = c.args.name.now in let i = c.loop-index.index in
    elim c.then-index-bytes.branch [
      | then-index-bytes-via-then-index-bytes w ↦ sym (short (bytes_case_folded_if_wanted c.args.lower bytes) name i (omega (arith, w.if-index-bytes.true, case_folding_keeps_length c.args.lower bytes)) c.loop-index-test.true) ∙ c.loop-index.invariant
      | then-index-bytes-via-else-index-bytes+then-fold_byte_case_if_wanted-byte w ↦
          sym (differs c.args.lower bytes name i w.if-index-bytes.false c.loop-index-test.true (λ e. w.if-fold_byte_case_if_wanted-byte.true (w.fold_byte_case_if_wanted.ensures ∙ e))) ∙ c.loop-index.invariant
    ]

pub loop-index-preserved : goal.loop-index-preserved
loop-index-preserved c =
    let bytes = c.args.bytes.now in let name = c.args.name.now in let i = c.loop-index.index in let xs = bytes_case_folded_if_wanted c.args.lower bytes in
    let same : get_or xs i 0 ≡ get_or name i 0 = byte_of_folded_bytes_is_folded_byte c.args.lower bytes i c.if-index-bytes.false ∙ sym c.fold_byte_case_if_wanted.ensures ∙ c.if-fold_byte_case_if_wanted-byte.false in
    sym (ap (λ t. t && has_bracketed_class_name_prefix (drop (i + 1) xs) (drop (i + 1) name)) (eq-eqb (get_or xs i 0) (get_or name i 0) same))
    ∙ sym (next xs name i (omega (arith, case_folding_keeps_length c.args.lower bytes, c.if-index-bytes.false)) c.loop-index-test.true) ∙ c.loop-index.invariant
