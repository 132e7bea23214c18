-- The headline of runs of the world: no leaf signs two digests, and each signature handed out is recorded and valid.
use Rattle.std.specs.Prelude.{◌≡◌, ℕ, List, Contains, Option, Some}
use Rattle.state_file.specs.declared.record.Bound.{Bound}
use Rattle.state_file.specs.declared.record.Key.{Key}
use Rattle.state_file.specs.declared.record.Record.{Record}
use Rattle.sign_core.specs.declared.key.AnyPublic.{AnyPublic}
use Rattle.sign_core.specs.Events.{AllEvents}
use Rattle.sign_core.specs.Records.{binding_at, the_key}
use Rattle.sign_core.specs.Textbook.{digest_at, public_of_key, textbook_signature}
use Rattle.sign_core.specs.World.{Event, Handed, World, beginning, run}
pub use Rattle.sign_core.specs.Uses.{IsLast, IsOneLeaf, IsValidUnder, LeafUse, MakesUses, lms_use, xmss_use}

-- ---- what was handed out

-- A name is bound to the digest of this message under the bound leaf and C.
pub record IsBoundTo (records : List Record) (key : Key) (name message : List ℕ) (k : ℕ) (bound : Bound) : Type 0 where
  pub keyed : the_key records ≡ Some key
  pub named : binding_at records name ≡ Some (k, bound)
  pub digest : digest_at key records k bound.leaf bound.randomizer message ≡ bound.digest

-- A signature that was handed out is the textbook signature of its name's binding, to the digest of its message.
pub record IsRecorded (records : List Record) (x : Handed) : Type 0 where
  pub key : Key
  pub k : ℕ
  pub bound : Bound
  pub is_bound : IsBoundTo records key x.name x.message k bound
  pub signature : x.signature ≡ textbook_signature key records k bound

-- the public key of the world's record 0
abbrev pub public_of_world : World → Option AnyPublic
public_of_world world = public_of_key (the_key world.state.records)

-- A signature was handed out, and by its bytes it makes these uses.
pub record WasHanded (world : World) (x : Handed) (uses : List LeafUse) : Type 0 where
  pub public : AnyPublic
  pub keyed : public_of_world world ≡ Some public
  pub handed : Contains world.handed x
  pub makes : MakesUses public x.message x.signature uses

-- ---- the law

pub record SignsOnce (world : World) : Type 0 where
  -- no leaf at any level signs two digests
  -- Requirement: RFC 8554 4, once
  -- Requirement: RFC 8391 3.1, once
  pub one_digest : (x y : Handed) (uses others : List LeafUse) (u v : LeafUse) → WasHanded world x uses
      → WasHanded world y others → Contains uses u → Contains others v → IsOneLeaf u v → u.digest ≡ v.digest
  -- no leaf of a bottom tree signs under two names
  pub one_name : (x y : Handed) (uses others : List LeafUse) (u v : LeafUse) → WasHanded world x uses
      → WasHanded world y others → IsLast u uses → IsLast v others → IsOneLeaf u v → x.name ≡ y.name
  -- one name has one signature
  pub one_signature : (x y : Handed) → Contains world.handed x → Contains world.handed y → x.name ≡ y.name
      → x.signature ≡ y.signature
  -- every signature that was handed out is recorded
  pub recorded : (x : Handed) → Contains world.handed x → IsRecorded world.state.records x
  -- and is valid for its message under the key
  pub valid : (x : Handed) → Contains world.handed x
      → (public : AnyPublic) × (public_of_world world ≡ Some public) × IsValidUnder public x.message x.signature

-- So it is after every run that begins without records: creates, openings, requests, retirings, migrations and crashes
-- in any order, whatever fails in them. The key is the one in record 0. That a create answers it stands in
-- `Openings.antt`, that it stays in `Lasting.antt`, and that signatures are given at all in `Requests.antt`.
abbrev pub HeadlineLaw : Type 0
HeadlineLaw = (limit : ℕ) (events : List Event) → AllEvents events → SignsOnce (run limit beginning events)
