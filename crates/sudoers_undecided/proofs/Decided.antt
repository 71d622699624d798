-- Facts that hold or not, and hold alike by two tests or could be turned.
use Rattle.std.proofs.Common.{◌≡◌, ◌⊎◌, ◌↔◌, inl, inr, Bool, true, false, List, refl, sym, ap, ◌∙◌}
use Rattle.sudoers_grammar.specs.declared.node.Atom.{Atom}
use Rattle.sudoers_grammar.specs.declared.node.Kind.{Kind}
use Rattle.sudoers_grammar.specs.Node.{Member}
use Rattle.sudoers_tree.specs.Line.{Line}
use Rattle.sudoers_match_list.specs.Flat.{SignedAtom, IsFlatListOf, last_hit_of_list}
use Rattle.sudoers_undecided.specs.TurningMembers.{is_allowed_by_hit_or_else, CouldTurnList}
use Rattle.sudoers_undecided.proofs.ListsByTests.{ListSaysAllow, list_says_same_or_could_turn}

-- P is said by the first tests, Q by the others. It is known whether P holds. Both hold alike, or an atom of which L holds could turn P.
pub record HoldsAlikeOrCouldTurn (P Q : Type 0) (L : SignedAtom → Type 0) : Type 0 where
  pub told : P ⊎ (P → ⊥)
  pub same : ((s : SignedAtom) × L s) ⊎ (Q ↔ P)

pub alike_under_equivalence : {P Q R S : Type 0} {L : SignedAtom → Type 0} → (R ↔ P) → (S ↔ Q) → HoldsAlikeOrCouldTurn P Q L → HoldsAlikeOrCouldTurn R S L
alike_under_equivalence {P} {Q} {R} {S} {L} a b s = record {
  told = elim s.told as (λ _. R ⊎ (R → ⊥)) [ inl p ↦ inl (a.1 p) | inr n ↦ inr (λ r. n (a.0 r)) ];
  same = elim s.same as (λ _. ((t : SignedAtom) × L t) ⊎ (S ↔ R)) [ inl l ↦ inl l | inr e ↦ inr ((λ x. a.1 (e.0 (b.0 x))), (λ x. b.1 (e.1 (a.0 x)))) ];
}

-- what is the same by all tests
pub alike_by_all_tests : {P : Type 0} {L : SignedAtom → Type 0} → P ⊎ (P → ⊥) → HoldsAlikeOrCouldTurn P P L
alike_by_all_tests d = record { told = d; same = inr ((λ x. x), (λ x. x)) }

is_true_or_false : (b : Bool) → (b ≡ true) ⊎ (b ≡ false)
is_true_or_false true = inl refl
is_true_or_false false = inr refl

pub is_true_or_not : (b : Bool) → (b ≡ true) ⊎ (b ≡ true → ⊥)
is_true_or_not true = inl refl
is_true_or_not false = inr (λ e. absurd cc)

abbrev pub HasFlatListOrNone : List Line → Type 0
HasFlatListOrNone lines = (k : Kind) (ms : List Member) → ((fs : List SignedAtom) × IsFlatListOf k lines ms fs) ⊎ ((fs : List SignedAtom) → IsFlatListOf k lines ms fs → ⊥)

abbrev pub FlatListIsUnique : Type 0
FlatListIsUnique = (k : Kind) (lines : List Line) (ms : List Member) (fs others : List SignedAtom) → IsFlatListOf k lines ms fs → IsFlatListOf k lines ms others → fs ≡ others

module _ (undecided test other : Atom → Bool) (misses : (a : Atom) → undecided a ≡ true → test a ≡ false) (agrees : (a : Atom) → undecided a ≡ false → other a ≡ test a) where
  module _ (one : FlatListIsUnique) (own : Bool) (k : Kind) (lines : List Line) (ms : List Member) where
    flat_list_alike_or_could_turn : (fs : List SignedAtom) → IsFlatListOf k lines ms fs → HoldsAlikeOrCouldTurn (ListSaysAllow own k lines test ms) (ListSaysAllow own k lines other ms) (CouldTurnList k lines undecided test own ms)
    flat_list_alike_or_could_turn fs f = record { told = told; same = same }
      where
        told : ListSaysAllow own k lines test ms ⊎ (ListSaysAllow own k lines test ms → ⊥)
        told = elim (is_true_or_false (is_allowed_by_hit_or_else own (last_hit_of_list test fs))) [
          | inl e ↦ inl (fs, f, e)
          | inr e ↦ inr (λ w. let same : fs ≡ w.0 = one k lines ms fs w.0 f w.1 in let clash : true ≡ false = sym w.2 ∙ sym (ap (λ ts. is_allowed_by_hit_or_else own (last_hit_of_list test ts)) same) ∙ e in absurd cc)
        ]

        values : is_allowed_by_hit_or_else own (last_hit_of_list other fs) ≡ is_allowed_by_hit_or_else own (last_hit_of_list test fs) → ListSaysAllow own k lines other ms ↔ ListSaysAllow own k lines test ms
        values e = (
          (λ w. let same : fs ≡ w.0 = one k lines ms fs w.0 f w.1 in (fs, f, sym e ∙ ap (λ ts. is_allowed_by_hit_or_else own (last_hit_of_list other ts)) same ∙ w.2)),
          (λ w. let same : fs ≡ w.0 = one k lines ms fs w.0 f w.1 in (fs, f, e ∙ ap (λ ts. is_allowed_by_hit_or_else own (last_hit_of_list test ts)) same ∙ w.2)),
        )

        same : ((s : SignedAtom) × CouldTurnList k lines undecided test own ms s) ⊎ (ListSaysAllow own k lines other ms ↔ ListSaysAllow own k lines test ms)
        same = elim (list_says_same_or_could_turn undecided test other misses agrees own (is_allowed_by_hit_or_else own (last_hit_of_list test fs)) fs refl) [
          | inl t ↦ inl (t.0, record { flat = fs; is_flat = f; turns = t.1 })
          | inr e ↦ inr (values e)
        ]

    pub list_alike_or_could_turn : HasFlatListOrNone lines → HoldsAlikeOrCouldTurn (ListSaysAllow own k lines test ms) (ListSaysAllow own k lines other ms) (CouldTurnList k lines undecided test own ms)
    list_alike_or_could_turn flats = elim (flats k ms) [
      | inl f ↦ flat_list_alike_or_could_turn f.0 f.1
      | inr n ↦ record { told = inr (λ w. n w.0 w.1); same = inr ((λ w. absurd (n w.0 w.1)), (λ w. absurd (n w.0 w.1))) }
    ]
