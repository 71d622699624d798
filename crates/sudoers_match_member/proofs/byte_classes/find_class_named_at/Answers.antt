use Rattle.std.proofs.Common.{◌≡◌, ◌==◌, ◌&&◌, ℕ, zero, suc, ◌+◌, ◌<◌, ◌≤◌, Bool, true, false, cond, List, [], ◌∷◌, length, drop, get_or, Some, None, refl, sym, ap, ◌∙◌, arith}
use Rattle.std.proofs.lemmas.Bool.{false≢true}
use Rattle.sudoers_match_member.specs.declared.byte_classes.PosixByteClass.{PosixByteClass}
use Rattle.sudoers_match_member.specs.declared.byte_classes.PosixByteClass.TheVariants.{Alnum, Alpha, Blank, Cntrl, Digit, Graph, Lower, Print, Punct, Space, Upper, Xdigit}
use Rattle.sudoers_match_member.specs.Class.{has_bracketed_class_name_prefix, first_class_named_at, class_named_at, all_posix_classes, bracketed_name_of_class}
use Rattle.sudoers_match_member.specs.Folded.{bytes_case_folded_if_wanted}
use Rattle.sudoers_match_member.proofs.byte_classes.find_class_named_at.Goals as goal

first_at : (ks : List PosixByteClass) (bytes : List ℕ) (i : ℕ) (d : PosixByteClass) → i < length ks
    → first_class_named_at (drop i ks) bytes ≡ cond (has_bracketed_class_name_prefix bytes (bracketed_name_of_class (get_or ks i d))) (Some (get_or ks i d)) (first_class_named_at (drop (i + 1) ks) bytes)
first_at [] bytes i d h = absurd (omega arith)
first_at (k ∷ ks) bytes zero d h = refl
first_at (k ∷ ks) bytes (suc i) d h = let e : suc i + 1 ≡ suc (i + 1) = omega arith in rw e (first_at ks bytes i d (omega arith))

first_past : (ks : List PosixByteClass) (bytes : List ℕ) (i : ℕ) → length ks ≤ i → first_class_named_at (drop i ks) bytes ≡ None
first_past [] bytes zero h = refl
first_past [] bytes (suc i) h = refl
first_past (k ∷ ks) bytes zero h = absurd (omega arith)
first_past (k ∷ ks) bytes (suc i) h = first_past ks bytes i (omega arith)

two_bytes_that_fail_fail_with_more : (bytes more : List ℕ) (c d : ℕ) → has_bracketed_class_name_prefix bytes (c ∷ d ∷ []) ≡ false → has_bracketed_class_name_prefix bytes (c ∷ d ∷ more) ≡ false
two_bytes_that_fail_fail_with_more [] more c d e = refl
two_bytes_that_fail_fail_with_more (a ∷ []) more c d e = e
two_bytes_that_fail_fail_with_more (a ∷ b ∷ bytes) more c d e = by (a == c) (b == d) e
  where
    by : (p q : Bool) → (p && (q && true)) ≡ false → (p && (q && has_bracketed_class_name_prefix bytes more)) ≡ false
    by true true e = absurd (false≢true (sym e))
    by true false e = refl
    by false q e = refl

name_fails_without_its_first_bytes : (bytes : List ℕ) → has_bracketed_class_name_prefix bytes (91 ∷ 58 ∷ []) ≡ false → (k : PosixByteClass) → has_bracketed_class_name_prefix bytes (bracketed_name_of_class k) ≡ false
name_fails_without_its_first_bytes bytes e Alnum = two_bytes_that_fail_fail_with_more bytes (drop 2 (bracketed_name_of_class Alnum)) 91 58 e
name_fails_without_its_first_bytes bytes e Alpha = two_bytes_that_fail_fail_with_more bytes (drop 2 (bracketed_name_of_class Alpha)) 91 58 e
name_fails_without_its_first_bytes bytes e Blank = two_bytes_that_fail_fail_with_more bytes (drop 2 (bracketed_name_of_class Blank)) 91 58 e
name_fails_without_its_first_bytes bytes e Cntrl = two_bytes_that_fail_fail_with_more bytes (drop 2 (bracketed_name_of_class Cntrl)) 91 58 e
name_fails_without_its_first_bytes bytes e Digit = two_bytes_that_fail_fail_with_more bytes (drop 2 (bracketed_name_of_class Digit)) 91 58 e
name_fails_without_its_first_bytes bytes e Graph = two_bytes_that_fail_fail_with_more bytes (drop 2 (bracketed_name_of_class Graph)) 91 58 e
name_fails_without_its_first_bytes bytes e Lower = two_bytes_that_fail_fail_with_more bytes (drop 2 (bracketed_name_of_class Lower)) 91 58 e
name_fails_without_its_first_bytes bytes e Print = two_bytes_that_fail_fail_with_more bytes (drop 2 (bracketed_name_of_class Print)) 91 58 e
name_fails_without_its_first_bytes bytes e Punct = two_bytes_that_fail_fail_with_more bytes (drop 2 (bracketed_name_of_class Punct)) 91 58 e
name_fails_without_its_first_bytes bytes e Space = two_bytes_that_fail_fail_with_more bytes (drop 2 (bracketed_name_of_class Space)) 91 58 e
name_fails_without_its_first_bytes bytes e Upper = two_bytes_that_fail_fail_with_more bytes (drop 2 (bracketed_name_of_class Upper)) 91 58 e
name_fails_without_its_first_bytes bytes e Xdigit = two_bytes_that_fail_fail_with_more bytes (drop 2 (bracketed_name_of_class Xdigit)) 91 58 e

no_class_is_named : (ks : List PosixByteClass) (bytes : List ℕ) → ((k : PosixByteClass) → has_bracketed_class_name_prefix bytes (bracketed_name_of_class k) ≡ false) → first_class_named_at ks bytes ≡ None
no_class_is_named [] bytes fails = refl
no_class_is_named (k ∷ ks) bytes fails = ap (λ t. cond t (Some k) (first_class_named_at ks bytes)) (fails k) ∙ no_class_is_named ks bytes fails

pub returns-then-not-begins_with_bracketed_class_name : goal.returns-then-not-begins_with_bracketed_class_name
unfolding class_named_at
returns-then-not-begins_with_bracketed_class_name c =
    let bytes = bytes_case_folded_if_wanted c.args.lower c.args.bytes.now in
    sym (no_class_is_named all_posix_classes bytes (name_fails_without_its_first_bytes bytes (sym c.begins_with_bracketed_class_name.ensures ∙ c.if-not-begins_with_bracketed_class_name.true)))

pub returns-then-begins_with_bracketed_class_name : goal.returns-then-begins_with_bracketed_class_name
unfolding class_named_at
returns-then-begins_with_bracketed_class_name c =
    let e = first_at all_posix_classes (bytes_case_folded_if_wanted c.args.lower c.args.bytes.now) c.loop-class.class-index Alnum c.loop-class-test.true in
    let is : has_bracketed_class_name_prefix (bytes_case_folded_if_wanted c.args.lower c.args.bytes.now) (bracketed_name_of_class (get_or all_posix_classes c.loop-class.class-index Alnum)) ≡ true =
    ap (has_bracketed_class_name_prefix (bytes_case_folded_if_wanted c.args.lower c.args.bytes.now)) (sym c.to_bracketed_name.ensures) ∙ sym c.begins_with_bracketed_class_name-in-loop-class.ensures ∙ c.if-begins_with_bracketed_class_name.true in
    ap (λ t. cond t (Some (get_or all_posix_classes c.loop-class.class-index Alnum)) (first_class_named_at (drop (c.loop-class.class-index + 1) all_posix_classes) (bytes_case_folded_if_wanted c.args.lower c.args.bytes.now))) (sym is)
    ∙ sym e ∙ c.loop-class.invariant

pub loop-class-preserved : goal.loop-class-preserved
loop-class-preserved c =
    let e = first_at all_posix_classes (bytes_case_folded_if_wanted c.args.lower c.args.bytes.now) c.loop-class.class-index Alnum c.loop-class-test.true in
    let is : has_bracketed_class_name_prefix (bytes_case_folded_if_wanted c.args.lower c.args.bytes.now) (bracketed_name_of_class (get_or all_posix_classes c.loop-class.class-index Alnum)) ≡ false =
    ap (has_bracketed_class_name_prefix (bytes_case_folded_if_wanted c.args.lower c.args.bytes.now)) (sym c.to_bracketed_name.ensures) ∙ sym c.begins_with_bracketed_class_name-in-loop-class.ensures ∙ c.if-begins_with_bracketed_class_name.false in
    ap (λ t. cond t (Some (get_or all_posix_classes c.loop-class.class-index Alnum)) (first_class_named_at (drop (c.loop-class.class-index + 1) all_posix_classes) (bytes_case_folded_if_wanted c.args.lower c.args.bytes.now))) (sym is)
    ∙ sym e ∙ c.loop-class.invariant

pub returns : goal.returns
unfolding class_named_at
returns c = sym (first_past all_posix_classes (bytes_case_folded_if_wanted c.args.lower c.args.bytes.now) c.loop-class.class-index c.loop-class-test.false) ∙ c.loop-class.invariant
