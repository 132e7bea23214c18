-- Two signatures that use one leaf use it by one record.
use Rattle.std.proofs.Common.{◌≡◌, ◌∙◌, sym, ap, ap₂, subst, ℕ, ◌<◌, inl, inr, List, Option, Some, arith}
use Rattle.std.specs.Prelude.{Contains, slice_get}
use Rattle.std.proofs.lemmas.Bool.{cases_order}
use Rattle.std.proofs.lemmas.Option.{same_Some}
use Rattle.state_file.specs.Laws.{IsLegal, Names}
use Rattle.state_file.specs.declared.record.Bound.{Bound}
use Rattle.state_file.specs.declared.record.Key.{Key}
use Rattle.state_file.specs.declared.record.Record.{Record}
use Rattle.state_file.specs.declared.record.Record.TheVariants.{Key as KeyRecord, Extend as ExtendRecord, Bound as BoundRecord, Retire, Moved}
use Rattle.state_file.specs.declared.record.Secret.{Secret}
use Rattle.state_file.specs.declared.record.Secret.TheVariants.{Lms, Hss, Xmss}
use Rattle.sign_core.specs.declared.key.AnyPublic.{AnyPublic}
use Rattle.sign_core.specs.Records.{binding_at, the_key}
use Rattle.sign_core.specs.Headline.{IsBoundTo, IsLast, IsOneLeaf, IsRecorded, IsValidUnder, WasHanded, public_of_world}
use Rattle.sign_core.specs.Textbook.{public_of_key}
use Rattle.sign_core.specs.Headline.{LeafUse, MakesUses}
use Rattle.sign_core.specs.World.{Handed, World}
use Rattle.sign_core.specs.Textbook.{AreSound, any_public_of, textbook_signature}
use Rattle.sign_core.proofs.records.Bindings.{binding_stands}
use Rattle.sign_core.proofs.law.LeafUses.{IsTreeOf, IsUseOf, SignsDigest, last_recorded, use_recorded}
use Rattle.sign_core.proofs.records.ValidSignatures.{all_valid}
use Rattle.sign_core.proofs.law.KeptByEvents.{IsKept, sound_with}
use Rattle.sign_core.proofs.records.Keys.{legal_key}
use Rattle.sign_core.proofs.records.Sizes.{key_has_sizes, public_made}

-- ---- one record

one_at : {A : Type 0} (xs : List A) (j k : ℕ) (a b : A) → j ≡ k → slice_get xs j ≡ Some a → slice_get xs k ≡ Some b → a ≡ b
one_at xs j k a b same at_j at_k = let both : Some a ≡ Some b = sym at_j ∙ ap (slice_get xs) same ∙ at_k in cc

one_tree : (secret : Secret) (records : List Record) (a b : ℕ) (identifier other : List ℕ) → IsLegal records → identifier ≡ other
    → IsTreeOf secret records a identifier → IsTreeOf secret records b other → a ≡ b
one_tree (Lms own) records a b identifier other legal same (made, at, is) (made_too, at_too, is_too) = elim (cases_order a b) [
  | inl one ↦ one
  | inr (inl below) ↦ absurd (legal.identifiers a b made made_too identifier below at at_too is (is_too ∙ ap Some (sym same)))
  | inr (inr above) ↦ absurd (legal.identifiers b a made_too made other above at_too at is_too (is ∙ ap Some same))
]
one_tree (Hss levels top seed) records a b identifier other legal same (made, at, is) (made_too, at_too, is_too) = elim (cases_order a b) [
  | inl one ↦ one
  | inr (inl below) ↦ absurd (legal.identifiers a b made made_too identifier below at at_too is (is_too ∙ ap Some (sym same)))
  | inr (inr above) ↦ absurd (legal.identifiers b a made_too made other above at_too at is_too (is ∙ ap Some same))
]
one_tree (Xmss own) records a b identifier other legal same is is_too = is ∙ sym is_too

one_place : (key : Key) (records : List Record) (p q : ℕ) (u v : LeafUse) (legal : IsLegal records) → legal.key ≡ key → IsUseOf key records p u
    → IsUseOf key records q v
    → IsOneLeaf u v → p ≡ q
one_place key records p q u v legal keyed first second one =
    let tree : first.tree ≡ second.tree = one_tree key.secret records first.tree second.tree u.identifier v.identifier legal one.identifier first.of_tree
    second.of_tree in
    let rising : (j k : ℕ) (a b : Record) (tree leaf later : ℕ) → j < k → slice_get records j ≡ Some a → slice_get records k ≡ Some b
    → Names key.secret records j a tree leaf → Names key.secret records k b tree later → leaf < later =
    subst (λ own. (j k : ℕ) (a b : Record) (tree leaf later : ℕ) → j < k → slice_get records j ≡ Some a → slice_get records k ≡ Some b
    → Names own.secret records j a tree leaf → Names own.secret records k b tree later → leaf < later) keyed legal.rising in
    let named : Names key.secret records q second.entry first.tree v.leaf = subst (λ t. Names key.secret records q second.entry t v.leaf)
    (sym tree) second.names in
    let leaf : u.leaf ≡ v.leaf = one.leaf in
    elim (cases_order p q) [
      | inl same ↦ same
      | inr (inl below) ↦ absurd (let less = rising p q first.entry second.entry first.tree u.leaf v.leaf below first.stands second.stands first.names named
          in omega (arith, less, leaf))
      | inr (inr above) ↦ absurd (let less = rising q p second.entry first.entry first.tree v.leaf u.leaf above second.stands first.stands named first.names
          in omega (arith, less, leaf))
    ]

one_signed : (entry : Record) (a b : List ℕ) → SignsDigest entry a → SignsDigest entry b → a ≡ b
one_signed (KeyRecord key) a b first second = absurd first
one_signed (ExtendRecord extend) a b first second = first ∙ sym second
one_signed (BoundRecord bound) a b first second = first ∙ sym second
one_signed (Retire upto) a b first second = absurd first
one_signed Moved a b first second = absurd first

-- ---- what was handed out

-- A signature is recorded under this key.
record IsUnder (records : List Record) (key : Key) (x : Handed) : Type 0 where
  k : ℕ
  bound : Bound
  is_bound : IsBoundTo records key x.name x.message k bound
  signature : x.signature ≡ textbook_signature key records k bound

recorded_under : (records : List Record) (key : Key) (x : Handed) → the_key records ≡ Some key → IsRecorded records x → IsUnder records key x
recorded_under records key x keyed is =
    let same : is.key ≡ key = cc (is.is_bound.keyed, keyed) in
    record {
      k = is.k;
      bound = is.bound;
      is_bound = subst (λ own. IsBoundTo records own x.name x.message is.k is.bound) same is.is_bound;
      signature = subst (λ own. x.signature ≡ textbook_signature own records is.k is.bound) same is.signature;
    }

public_under : (records : List Record) (key : Key) (public : AnyPublic) → the_key records ≡ Some key → public_of_key (the_key records) ≡ Some public
    → any_public_of key ≡ Some public
public_under records key public keyed is = sym (ap public_of_key keyed) ∙ is

-- Two signatures with what is known of both.
record AreHanded (world : World) (x y : Handed) (uses others : List LeafUse) : Type 0 where
  key : Key
  keyed : the_key world.state.records ≡ Some key
  public : AnyPublic
  is_public : any_public_of key ≡ Some public
  sound : AreSound world.state.records
  own : sound.legal.key ≡ key
  first : IsUnder world.state.records key x
  second : IsUnder world.state.records key y
  first_uses : MakesUses public x.message (textbook_signature key world.state.records first.k first.bound) uses
  second_uses : MakesUses public y.message (textbook_signature key world.state.records second.k second.bound) others

are_handed : (world : World) (x y : Handed) (uses others : List LeafUse) → IsKept world.state.records world.handed → WasHanded world x uses
    → WasHanded world y others → AreHanded world x y uses others
are_handed world x y uses others kept was too =
    let records = world.state.records in
    let is = kept.recorded x was.handed in
    let keyed = is.is_bound.keyed in
    let sound = sound_with records world.handed is.key kept keyed in
    let first = recorded_under records is.key x keyed is in
    let second = recorded_under records is.key y keyed (kept.recorded y too.handed) in
    let one : too.public ≡ was.public = same_Some too.public was.public (sym too.keyed ∙ was.keyed) in
    record {
      key = is.key;
      keyed = keyed;
      public = was.public;
      is_public = public_under records is.key was.public keyed was.keyed;
      sound = sound;
      own = legal_key records is.key sound.legal keyed;
      first = first;
      second = second;
      first_uses = subst (λ bytes. MakesUses was.public x.message bytes uses) first.signature was.makes;
      second_uses =
          subst (λ bytes. MakesUses was.public y.message bytes others) second.signature
          (subst (λ public. MakesUses public y.message y.signature others) one too.makes);
    }

pub one_digest : (world : World) (x y : Handed) (uses others : List LeafUse) (u v : LeafUse) → IsKept world.state.records world.handed
    → WasHanded world x uses → WasHanded world y others
    → Contains uses u → Contains others v → IsOneLeaf u v → u.digest ≡ v.digest
one_digest world x y uses others u v kept was too in_uses in_others one =
    let records = world.state.records in
    let are = are_handed world x y uses others kept was too in
    let (p, of_u) = use_recorded records are.key x.name x.message are.first.k are.first.bound are.public uses u are.sound kept.sizes are.first.is_bound
    are.is_public
    are.first_uses in_uses in
    let (q, of_v) = use_recorded records are.key y.name y.message are.second.k are.second.bound are.public others v are.sound kept.sizes are.second.is_bound
    are.is_public
    are.second_uses in_others in
    let place : p ≡ q = one_place are.key records p q u v are.sound.legal are.own of_u of_v one in
    let entry : of_u.entry ≡ of_v.entry = one_at records p q of_u.entry of_v.entry place of_u.stands of_v.stands in
    one_signed of_v.entry u.digest v.digest (subst (λ r. SignsDigest r u.digest) entry of_u.signs) of_v.signs

one_bound : (records : List Record) (name other : List ℕ) (j k : ℕ) (a b : Bound) → j ≡ k → binding_at records name ≡ Some (j, a)
    → binding_at records other ≡ Some (k, b)
    → name ≡ other
one_bound records name other j k a b same first second =
    let (at, is, first_one) = binding_stands records name j a first in
    let (at_too, is_too, first_too) = binding_stands records other k b second in
    sym is ∙ ap (λ x. x.name) (bound_of (one_at records j k (BoundRecord a) (BoundRecord b) same at at_too)) ∙ is_too
  where
    bound_of : BoundRecord a ≡ BoundRecord b → a ≡ b
    bound_of one = cc

pub one_name : (world : World) (x y : Handed) (uses others : List LeafUse) (u v : LeafUse) → IsKept world.state.records world.handed
    → WasHanded world x uses → WasHanded world y others
    → IsLast u uses → IsLast v others → IsOneLeaf u v → x.name ≡ y.name
one_name world x y uses others u v kept was too last_u last_v one =
    let records = world.state.records in
    let are = are_handed world x y uses others kept was too in
    let of_u = last_recorded records are.key x.name x.message are.first.k are.first.bound are.public uses u are.sound kept.sizes are.first.is_bound
    are.is_public
    are.first_uses last_u in
    let of_v = last_recorded records are.key y.name y.message are.second.k are.second.bound are.public others v are.sound kept.sizes are.second.is_bound
    are.is_public
    are.second_uses last_v in
    let place : are.first.k ≡ are.second.k = one_place are.key records are.first.k are.second.k u v are.sound.legal are.own of_u of_v one in
    one_bound records x.name y.name are.first.k are.second.k are.first.bound are.second.bound place are.first.is_bound.named are.second.is_bound.named

pub one_signature : (records : List Record) (x y : Handed) → IsRecorded records x → IsRecorded records y → x.name ≡ y.name → x.signature ≡ y.signature
one_signature records x y is_x is_y name =
    let first = recorded_under records is_x.key x is_x.is_bound.keyed is_x in
    let second = recorded_under records is_x.key y is_x.is_bound.keyed is_y in
    let found : ◌≡◌ {A = Option (ℕ × Bound)} (Some (first.k, first.bound)) (Some (second.k, second.bound)) =
    sym first.is_bound.named ∙ ap (binding_at records) name ∙ second.is_bound.named in
    let pair : ◌≡◌ {A = ℕ × Bound} (first.k, first.bound) (second.k, second.bound) = cc in
    first.signature ∙ ap₂ (λ k b. textbook_signature is_x.key records k b) (ap (λ p. p.0) pair) (ap (λ p. p.1) pair) ∙ sym second.signature

pub handed_valid : (world : World) (x : Handed) → IsKept world.state.records world.handed → Contains world.handed x
    → (public : AnyPublic) × (public_of_world world ≡ Some public) × IsValidUnder public x.message x.signature
handed_valid world x kept there =
    let records = world.state.records in
    let is = kept.recorded x there in
    let keyed = is.is_bound.keyed in
    let (public, is_public) = public_made is.key.secret is.key.root (key_has_sizes records is.key kept.sizes keyed) in
    let proven = all_valid records is.key x.name x.message is.k is.bound public
    (sound_with records world.handed is.key kept keyed) kept.sizes is.is_bound is_public in
    (public, ap public_of_key keyed ∙ is_public, subst (IsValidUnder public x.message) (sym is.signature) proven)
