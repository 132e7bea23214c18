-- What is kept of leaves after one more use, and the least place with another digest.
use Rattle.std.proofs.Common.{◌≡◌, ◌⊎◌, ◌∙◌, inl, inr, ℕ, ◌+◌, ◌<◌, ◌≤◌, Bool, true, false, List, [], ◌∷◌, ◌++◌, length, take, get_or, Option, Some, None}
use Rattle.std.proofs.Common.{refl, sym, ap, subst, arith, true≢false}
use Rattle.std.specs.Prelude.{◌≢◌, Contains, map, min}
use Rattle.std.specs.Cmp.Lexicographic.{bytes_decides}
use Rattle.std.proofs.lemmas.Bool.{and_parts, and_cases, cases_lt}
use Rattle.std.proofs.lemmas.List.{append_assoc, append-nil, map-append, take_more}
use Rattle.std.proofs.lemmas.Option.{none-some, same_Some}
use Rattle.std.proofs.lemmas.List.Elements.{Contains-push, Contains-append_left, Contains-push_cases}
use Rattle.std.proofs.Math.Nat.{min-eq_left, min-eq_right}
use Rattle.sign_core.specs.Ledger.{ByText, of_text}
use Rattle.sign_core.specs.Records.{are_same}
use Rattle.key_audit.specs.declared.leaf_index.FirstUse.{FirstUse}
use Rattle.key_audit.specs.declared.uses.LeafUse.{LeafUse}
use Rattle.key_audit.specs.inner.LeafIndex.{AddsUse, AreKept, AreUpTo, IsFirstConflict, IsFirstUse, IsKept, UseAt, conflict_at, min_some, use_at, with_use}

-- ---- the least place

pub least_push : (entries : ByText FirstUse) (uses : List LeafUse) (used : LeafUse) (least found : Option ℕ)
    → conflict_at entries used ≡ found → IsFirstConflict entries uses least
    → IsFirstConflict entries (uses ++ used ∷ []) (min_some least found)
least_push entries uses used None None at before = λ x has. elim (Contains-push_cases uses used x has) [
  | inl old ↦ before x old
  | inr same ↦ ap (conflict_at entries) (sym same) ∙ at
]
least_push entries uses used None (Some k) at before = (
  (used, Contains-push uses used, at),
  λ x j has other. elim (Contains-push_cases uses used x has) [
    | inl old ↦ absurd (none-some j (sym (before x old) ∙ other))
    | inr same ↦
        let is : k ≡ j = same_Some k j (sym at ∙ ap (conflict_at entries) same ∙ other) in omega arith
  ],
)
least_push entries uses used (Some i) None at ((x, has, here), least) = (
  (x, Contains-append_left uses (used ∷ []) x has, here),
  λ y j in_all other. elim (Contains-push_cases uses used y in_all) [
    | inl old ↦ least y j old other
    | inr same ↦ absurd (none-some j (sym at ∙ ap (conflict_at entries) same ∙ other))
  ],
)
least_push entries uses used (Some i) (Some k) at ((x, has, here), least) =
    let other_ends : (y : LeafUse) (j : ℕ) → Contains (uses ++ used ∷ []) y → conflict_at entries y ≡ Some j → (i ≤ j) ⊎ (k ≡ j) =
    λ y j in_all other. elim (Contains-push_cases uses used y in_all) [
      | inl old ↦ inl (least y j old other)
      | inr same ↦ inr (same_Some k j (sym at ∙ ap (conflict_at entries) same ∙ other))
    ] in
    elim (cases_lt i k) [
      | inl below ↦
          let is : min i k ≡ i = min-eq_left (omega (arith, below)) in (
            (x, Contains-append_left uses (used ∷ []) x has, here ∙ ap Some (sym is)),
            λ y j in_all other. elim (other_ends y j in_all other) [ inl low ↦ omega (arith, is, low) | inr same ↦ omega (arith, is, below, same) ],
          )
      | inr above ↦
          let is : min i k ≡ k = min-eq_right above in (
            (used, Contains-push uses used, at ∙ ap Some (sym is)),
            λ y j in_all other. elim (other_ends y j in_all other) [ inl low ↦ omega (arith, is, above, low) | inr same ↦ omega (arith, is, same) ],
          )
    ]

-- ---- one more use

pub record AreAddedTo (place : ℕ) (before after : List UseAt) (entries : ByText FirstUse) : Type 0 where
  pub up_to : AreUpTo place (Contains after)
  pub kept : AreKept (Contains after) entries

-- The uses of one signature were added to whatever was kept.
abbrev pub AreAdded : (place : ℕ) → List LeafUse → (old new : ByText FirstUse) → Type 0
AreAdded place uses old new = (before : List UseAt) → AreUpTo place (Contains before) → AreKept (Contains before) old
    → AreAddedTo place before (before ++ map (use_at place) uses) new

-- what one more use changes for its leaf
push_here : (before : List UseAt) (place : ℕ) (used : LeafUse) (o : Option FirstUse) → AreUpTo place (Contains before)
    → IsKept (Contains before) used.leaf o
    → IsFirstUse (Contains (before ++ use_at place used ∷ [])) used.leaf (with_use o place used.digest)
push_here before place used None low kept = record {
  used = Contains-push before (use_at place used);
  least = λ x has same. elim (Contains-push_cases before (use_at place used) x has) [
    | inl old ↦ absurd (kept x old same)
    | inr is ↦ let at : place ≡ x.place = ap (λ y. y.place) is in omega (arith, at)
  ];
  alike = λ _ x has same. elim (Contains-push_cases before (use_at place used) x has) [
    | inl old ↦ absurd (kept x old same)
    | inr is ↦ sym (ap (λ y. y.digest) is)
  ];
  mixed = λ never. absurd (true≢false never);
}
push_here before place used (Some first) low kept = record {
  used = Contains-append_left before (use_at place used ∷ []) _ kept.used;
  least = λ x has same. elim (Contains-push_cases before (use_at place used) x has) [
    | inl old ↦ kept.least x old same
    | inr is ↦
        let at : place ≡ x.place = ap (λ y. y.place) is in
        let under : first.place ≤ place = low _ kept.used in omega (arith, at, under)
  ];
  alike = λ all x has same.
      let (only, here) = and_parts first.one_digest (are_same first.digest used.digest) all in
      elim (Contains-push_cases before (use_at place used) x has) [
        | inl old ↦ kept.alike only x old same
        | inr is ↦ sym (ap (λ y. y.digest) is) ∙ sym ((bytes_decides first.digest used.digest).0 here)
      ];
  mixed = λ other. by first.one_digest refl (and_cases first.one_digest (are_same first.digest used.digest) other);
} where
  Mixed : Type 0
  Mixed = (x : UseAt) × Contains (before ++ use_at place used ∷ []) x × (x.leaf ≡ used.leaf) × (x.digest ≢ first.digest)

  old_mixed : first.one_digest ≡ false → Mixed
  old_mixed not_only =
      let (x, has, same, differs) = kept.mixed not_only in (x, Contains-append_left before (use_at place used ∷ []) x has, same, differs)

  by : (b : Bool) → first.one_digest ≡ b → (first.one_digest ≡ false) ⊎ (are_same first.digest used.digest ≡ false) → Mixed
  by b is (inl not_only) = old_mixed not_only
  by b is (inr differs) = (
    use_at place used,
    Contains-push before (use_at place used),
    refl,
    λ same. true≢false (sym ((bytes_decides first.digest used.digest).1 (sym same)) ∙ differs),
  )

-- for another leaf, nothing
push_elsewhere : (before : List UseAt) (place : ℕ) (used : LeafUse) (leaf : List ℕ) (o : Option FirstUse) → leaf ≢ used.leaf
    → IsKept (Contains before) leaf o → IsKept (Contains (before ++ use_at place used ∷ [])) leaf o
push_elsewhere before place used leaf None apart kept = λ x has same. elim (Contains-push_cases before (use_at place used) x has) [
  | inl old ↦ kept x old same
  | inr is ↦ apart (sym same ∙ sym (ap (λ y. y.leaf) is))
]
push_elsewhere before place used leaf (Some first) apart kept = record {
  used = Contains-append_left before (use_at place used ∷ []) _ kept.used;
  least = λ x has same. elim (Contains-push_cases before (use_at place used) x has) [
    | inl old ↦ kept.least x old same
    | inr is ↦ absurd (apart (sym same ∙ sym (ap (λ y. y.leaf) is)))
  ];
  alike = λ only x has same. elim (Contains-push_cases before (use_at place used) x has) [
    | inl old ↦ kept.alike only x old same
    | inr is ↦ absurd (apart (sym same ∙ sym (ap (λ y. y.leaf) is)))
  ];
  mixed = λ not_only.
      let (x, has, same, differs) = kept.mixed not_only in (x, Contains-append_left before (use_at place used ∷ []) x has, same, differs);
}

kept_by : (before : List UseAt) (place : ℕ) (used : LeafUse) (old new : ByText FirstUse) → AreUpTo place (Contains before)
    → AreKept (Contains before) old → AddsUse place used old new → (leaf : List ℕ) (b : Bool) → are_same leaf used.leaf ≡ b
    → IsKept (Contains (before ++ use_at place used ∷ [])) leaf (of_text new leaf)
kept_by before place used old new low kept adds leaf true is =
    let same : leaf ≡ used.leaf = (bytes_decides leaf used.leaf).0 is in
    subst (λ l. IsKept (Contains (before ++ use_at place used ∷ [])) l (of_text new l)) (sym same)
    (subst (IsKept (Contains (before ++ use_at place used ∷ [])) used.leaf) (sym adds.here)
    (push_here before place used (of_text old used.leaf) low (kept used.leaf)))
kept_by before place used old new low kept adds leaf false is =
    let apart : leaf ≢ used.leaf = λ same. true≢false (sym ((bytes_decides leaf used.leaf).1 same) ∙ is) in
    subst (IsKept (Contains (before ++ use_at place used ∷ [])) leaf) (sym (adds.elsewhere leaf apart))
    (push_elsewhere before place used leaf (of_text old leaf) apart (kept leaf))

pub added_none : (place : ℕ) (entries : ByText FirstUse) → AreAdded place [] entries entries
added_none place entries before low kept =
    subst (λ l. AreAddedTo place before l entries) (sym (append-nil before)) (record { up_to = low; kept = kept })

pub added_more : (place : ℕ) (uses : List LeafUse) (used : LeafUse) (old middle new : ByText FirstUse)
    → AreAdded place uses old middle → AddsUse place used middle new → AreAdded place (uses ++ used ∷ []) old new
added_more place uses used old middle new added adds before low kept =
    let so_far = added before low kept in
    let all = before ++ map (use_at place) uses in
    let longer : before ++ map (use_at place) (uses ++ used ∷ []) ≡ all ++ use_at place used ∷ [] =
    ap (λ l. before ++ l) (map-append (use_at place) uses (used ∷ [])) ∙ sym (append_assoc before (map (use_at place) uses) (use_at place used ∷ [])) in
    subst (λ l. AreAddedTo place before l new) (sym longer) (record {
      up_to = λ x has. elim (Contains-push_cases all (use_at place used) x has) [
        | inl earlier_one ↦ so_far.up_to x earlier_one
        | inr is ↦ let at : place ≡ x.place = ap (λ y. y.place) is in omega (arith, at)
      ];
      kept = λ leaf. kept_by all place used middle new so_far.up_to so_far.kept adds leaf (are_same leaf used.leaf) refl;
    })

-- ---- a loop over uses

pub next_taken : (uses : List LeafUse) (i : ℕ) (used : LeafUse) → i < length uses → used ≡ get_or uses i used
    → take (i + 1) uses ≡ take i uses ++ used ∷ []
next_taken uses i used inside is = take_more uses i used inside ∙ ap (λ u. take i uses ++ u ∷ []) (sym is)
