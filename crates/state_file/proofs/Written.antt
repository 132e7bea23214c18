-- Fields written one after the other.
use Rattle.std.proofs.Common.{◌≡◌, ℕ, zero, suc, ◌+◌, ◌-◌, ◌<◌, ◌≤◌, Bool, true, List, [], ◌∷◌, ◌++◌, length, replicate, take, Option, Some, refl, sym, ap, ◌∙◌, subst, arith, le-leb, add-one, get_or, append-nil, append_assoc}
use Rattle.std.specs.List.{list_all}
use Rattle.std.specs.Prelude.{◌==◌, ◌&&◌, nat_le}
use Rattle.std.specs.Cmp.Lexicographic.{bytes_decides, pointwise}
use Rattle.std.proofs.lemmas.Bool.{and_from}
use Rattle.std.proofs.lemmas.List.{take_more}
use Rattle.byteorder.specs.Endian.{big_bytes}
use Rattle.typecodes.specs.declared.types.LmsType.{LmsType}
use Rattle.typecodes.specs.declared.types.LmsType.TheVariants.{H5, H10, H15, H20, H25}
use Rattle.typecodes.specs.declared.types.OtsType.{OtsType}
use Rattle.typecodes.specs.declared.types.OtsType.TheVariants.{W1, W2, W4, W8}
use Rattle.typecodes.specs.declared.types.XmssType.{XmssType}
use Rattle.typecodes.specs.declared.types.XmssType.TheVariants.{H10 as X10, H16 as X16, H20 as X20}
use Rattle.typecodes.specs.Types.{xmss_code, xmss_of_code, xmss_types, lms_code, lms_of_code, lms_types, named, ots_code, ots_of_code, ots_types}
use Rattle.state_file.specs.declared.record.Version.{Version}
use Rattle.typecodes.specs.declared.types.LmsPair.{LmsPair}
use Rattle.typecodes.specs.Layout.{Layout, done, ◌>>=◌, Spells}
use Rattle.typecodes.specs.Fields.{block, lms_type, number, ots_type, typed, xmss_type}
use Rattle.typecodes.proofs.Spelling.{from_turn, in_turn}
use Rattle.typecodes.specs.Name.{IsName}
use Rattle.state_file.proofs.Visible.{visible-name}
use Rattle.state_file.specs.Slot.{are_visible, byte, bounded_byte, exactly, name_field, only_if, pair_field, pairs, version_code, version_field, zeros}
use Rattle.state_file.specs.inner.Fields.{AppendsSpelling}
use Rattle.typecodes.proofs.Codes.{known}

pub writes-done : {V : Type 0} (v : V) (at : List ℕ) → AppendsSpelling (done v) v at at
writes-done v at = record { part = []; after = sym (append-nil at); spelled = (refl, refl) }

pub writes-bind : {A B : Type 0} (first : Layout A) (next : A → Layout B) (v : A) (w : B) (a b c : List ℕ) → AppendsSpelling first v a b → AppendsSpelling (next v) w b c → AppendsSpelling (first >>= next) w a c
writes-bind first next v w a b c x y = record {
  part = x.part ++ y.part;
  after = y.after ∙ ap (λ l. l ++ y.part) x.after ∙ append_assoc a x.part y.part;
  spelled = from_turn first next v w x.part y.part x.spelled y.spelled;
}

pub writes-typed : {T : Type 0} (code : T → ℕ) (types : List T) (t : T) (a b : List ℕ) → named code types (code t) ≡ Some t → AppendsSpelling number (code t) a b → AppendsSpelling (typed code types) t a b
writes-typed code types t a b is x =
    writes-bind number (λ c. known (named code types c)) (code t) t a b b x
    (let P : Option _ → Type 0 = λ found. AppendsSpelling (known found) t b b in subst P (sym is) (writes-done t b))

pub spells-only_if : {V : Type 0} (n : ℕ) (test : List ℕ → Bool) (value : List ℕ → V) (bytes : List ℕ) → length bytes ≡ n → test bytes ≡ true
    → Spells (block n >>= λ b. only_if (test b) n (value b)) (value bytes) bytes
spells-only_if n test value bytes len passes =
    let P : Bool → Type 0 = λ t. Spells (only_if t n (value bytes)) (value bytes) [] in
    (bytes, [], sym (append-nil bytes), len, subst P (sym passes) (refl, refl))

zeros-zero : (n m : ℕ) → list_all (λ b. b == 0) (take n (replicate m 0)) ≡ true
zeros-zero zero m = refl
zeros-zero (suc n) zero = refl
zeros-zero (suc n) (suc m) = zeros-zero n m

zeros-length : (n m : ℕ) → n ≤ m → length {A = ℕ} (take n (replicate m 0)) ≡ n
zeros-length zero m within_limit = refl
zeros-length (suc n) zero within_limit = absurd (omega arith)
zeros-length (suc n) (suc m) within_limit = ap suc (zeros-length n m (omega arith))

pub writes-zeros : (n m : ℕ) (old new : List ℕ) → n ≤ m → new ≡ old ++ take n (replicate m 0) → AppendsSpelling (zeros n) tt old new
unfolding zeros
writes-zeros n m old new within_limit is = record {
  part = take n (replicate m 0);
  after = is;
  spelled = spells-only_if n (λ bytes. list_all (λ b. b == 0) bytes) (λ _. tt) (take n (replicate m 0)) (zeros-length n m within_limit) (zeros-zero n m);
}

pub writes-exactly : (bytes old new : List ℕ) → new ≡ old ++ bytes → AppendsSpelling (exactly (length bytes) bytes) tt old new
unfolding exactly
writes-exactly bytes old new is = record {
  part = bytes;
  after = is;
  spelled = spells-only_if (length bytes) (λ read. pointwise (λ a b. a == b) read bytes) (λ _. tt) bytes refl ((bytes_decides bytes bytes).1 refl);
}

pub writes-byte : (n : ℕ) (old new : List ℕ) → new ≡ old ++ n ∷ [] → AppendsSpelling byte n old new
unfolding byte
writes-byte n old new is = record {
  part = n ∷ [];
  after = is;
  spelled = (n ∷ [], [], refl, refl, (omega arith, refl));
}

pub writes-only_if : {V : Type 0} (test : Bool) (n : ℕ) (v : V) (at : List ℕ) → test ≡ true → AppendsSpelling (only_if test n v) v at at
writes-only_if test n v at passes = let P : Bool → Type 0 = λ t. AppendsSpelling (only_if t n v) v at at in subst P (sym passes) (writes-done v at)

pub writes-bounded_byte : (least most n : ℕ) (old new : List ℕ) → least ≤ n → n ≤ most → AppendsSpelling byte n old new → AppendsSpelling (bounded_byte least most) n old new
unfolding bounded_byte
writes-bounded_byte least most n old new low high written =
    writes-bind byte (λ m. only_if (nat_le least m && nat_le m most) 1 m) n n old new new written
    (writes-only_if (nat_le least n && nat_le n most) 1 n new (and_from _ _ (le-leb _ _ low) (le-leb _ _ high)))

pub writes-version : (version : Version) (old new : List ℕ) → new ≡ old ++ big_bytes 2 (version_code version) → AppendsSpelling (version_field version) tt old new
unfolding version_field
writes-version version old new is =
    let len : length (big_bytes 2 (version_code version)) ≡ 2 = refl in
    subst (λ n. AppendsSpelling (exactly n (big_bytes 2 (version_code version))) tt old new) len (writes-exactly (big_bytes 2 (version_code version)) old new is)

pub writes-lms_type : (t : LmsType) (old new : List ℕ) → AppendsSpelling number (lms_code t) old new → AppendsSpelling lms_type t old new
unfolding lms_type
writes-lms_type t old new written =
    let P : LmsType → Type 0 = λ t. lms_of_code (lms_code t) ≡ Some t in
    writes-typed lms_code lms_types t old new (elim t as P [ H5 ↦ refl | H10 ↦ refl | H15 ↦ refl | H20 ↦ refl | H25 ↦ refl ]) written

pub writes-ots_type : (t : OtsType) (old new : List ℕ) → AppendsSpelling number (ots_code t) old new → AppendsSpelling ots_type t old new
unfolding ots_type
writes-ots_type t old new written =
    let P : OtsType → Type 0 = λ t. ots_of_code (ots_code t) ≡ Some t in
    writes-typed ots_code ots_types t old new (elim t as P [ W1 ↦ refl | W2 ↦ refl | W4 ↦ refl | W8 ↦ refl ]) written

pub writes-xmss_type : (t : XmssType) (old new : List ℕ) → AppendsSpelling number (xmss_code t) old new → AppendsSpelling xmss_type t old new
unfolding xmss_type
writes-xmss_type t old new written =
    let P : XmssType → Type 0 = λ t. xmss_of_code (xmss_code t) ≡ Some t in
    writes-typed xmss_code xmss_types t old new (elim t as P [ X10 ↦ refl | X16 ↦ refl | X20 ↦ refl ]) written

pairs-snoc : (n : ℕ) (xs : List LmsPair) (pair : LmsPair) (a b : List ℕ) → Spells (pairs n) xs a → Spells pair_field pair b → Spells (pairs (suc n)) (xs ++ pair ∷ []) (a ++ b)
unfolding pairs
pairs-snoc zero xs pair a b spelled last =
    let one : Spells (pairs 1) (pair ∷ []) (b ++ []) = from_turn pair_field (λ first. pairs 0 >>= λ rest. done (first ∷ rest)) pair (pair ∷ []) b [] last (refl, refl) in
    subst (λ (p : List LmsPair × List ℕ). Spells (pairs 1) (p.0 ++ pair ∷ []) p.1) (λ i. (spelled.0 i, (append-nil b ∙ ap (λ l. l ++ b) (sym spelled.1)) i)) one
pairs-snoc (suc n) xs pair a b spelled last =
    let (first, a₁, rest, a_is, first_is, after) = in_turn pair_field (λ first. pairs n >>= λ rest. done (first ∷ rest)) xs a spelled in
    let (others, a₂, a₃, rest_is, others_are, end) = in_turn (pairs n) (λ rest. done (first ∷ rest)) xs rest after in
    let more = pairs-snoc n others pair a₂ b others_are last in
    let whole = from_turn pair_field (λ first. pairs (suc n) >>= λ rest. done (first ∷ rest)) first (first ∷ (others ++ pair ∷ [])) a₁ ((a₂ ++ b) ++ []) first_is
    (from_turn (pairs (suc n)) (λ rest. done (first ∷ rest)) (others ++ pair ∷ []) (first ∷ (others ++ pair ∷ [])) (a₂ ++ b) [] more (refl, refl)) in
    let bytes : a₁ ++ ((a₂ ++ b) ++ []) ≡ a ++ b =
    ap (λ l. a₁ ++ l) (append-nil (a₂ ++ b)) ∙ sym (append_assoc a₁ a₂ b)
    ∙ ap (λ l. (a₁ ++ l) ++ b) (sym (append-nil a₂) ∙ ap (λ l. a₂ ++ l) (sym end.1) ∙ sym rest_is) ∙ ap (λ l. l ++ b) (sym a_is) in
    subst (λ (p : List LmsPair × List ℕ). Spells (pairs (suc (suc n))) (p.0 ++ pair ∷ []) p.1) (λ i. (end.0 i, bytes i)) whole

pub writes-snoc : (n : ℕ) (xs : List LmsPair) (pair : LmsPair) (a b c : List ℕ) → AppendsSpelling (pairs n) xs a b → AppendsSpelling pair_field pair b c → AppendsSpelling (pairs (suc n)) (xs ++ pair ∷ []) a c
writes-snoc n xs pair a b c x y = record {
  part = x.part ++ y.part;
  after = y.after ∙ ap (λ l. l ++ y.part) x.after ∙ append_assoc a x.part y.part;
  spelled = pairs-snoc n xs pair x.part y.part x.spelled y.spelled;
}

pub writes-next : (all : List LmsPair) (i : ℕ) (d : LmsPair) (a b c : List ℕ) → i < length all → AppendsSpelling (pairs i) (take i all) a b → AppendsSpelling pair_field (get_or all i d) b c → AppendsSpelling (pairs (i + 1)) (take (i + 1) all) a c
writes-next all i d a b c within x y =
    subst (λ (p : ℕ × List LmsPair). AppendsSpelling (pairs p.0) p.1 a c) (λ j. (sym (add-one i) j, sym (take_more all i d within) j)) (writes-snoc i (take i all) (get_or all i d) a b c x y)

pub writes-none : (at : List ℕ) → AppendsSpelling (pairs 0) [] at at
unfolding pairs
writes-none at = writes-done [] at

pub writes-name : (most : ℕ) (name : List ℕ) (old a b c : List ℕ) → IsName name → AppendsSpelling (bounded_byte 1 most) (length name) old a → b ≡ a ++ name → AppendsSpelling (zeros (most - length name)) tt b c → AppendsSpelling (name_field most) name old c
unfolding name_field
writes-name most name old a b c is count bytes rest =
    writes-bind (bounded_byte 1 most) _ (length name) name old a c count
    (writes-bind (block (length name)) _ name name a b c (record { part = name; after = bytes; spelled = (name, [], sym (append-nil name), refl, (refl, refl)) })
    (writes-bind (only_if (are_visible name) (length name) name) _ name name b b c (writes-only_if (are_visible name) (length name) name b (visible-name name is))
    (writes-bind (zeros (most - length name)) _ tt name b c c rest
    (writes-done name c))))
