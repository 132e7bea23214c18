-- Which events can come, by what may be drawn in them.
use Rattle.std.specs.Prelude.{◌≡◌, ℕ, List, [], ◌∷◌, length}
use Rattle.typecodes.specs.declared.spec.Spec.TheVariants.{Xmss}
use Rattle.std.specs.List.{AllByRecursion}
use Rattle.typecodes.specs.declared.spec.Spec.{Spec}
use Rattle.typecodes.specs.Spec.{IsSpec}
use Rattle.typecodes.specs.Name.{IsName}
use Rattle.typecodes.specs.Layout.{AreBytes}
use Rattle.state_file.specs.declared.record.Secret.{Secret}
use Rattle.state_file.specs.declared.record.Secret.TheVariants.{Lms as LmsSecret, Hss as HssSecret, Xmss as XmssSecret}
use Rattle.sign_core.specs.World.{Chance, Event, create, request}

-- the fields of a draw have their sizes in bytes; where the source failed, fields at the end are missing
abbrev pub AreFields : (sizes : List ℕ) → (fields : List (List ℕ)) → Type 0
AreFields sizes [] = Unit {0}
AreFields [] (field ∷ fields) = ⊥
AreFields (size ∷ sizes) (field ∷ fields) = (length field ≡ size) × AreBytes field × AreFields sizes fields

-- what a create draws: I and SEED, or the three seeds of XMSS
-- Requirement: RFC 8554 5.2, secret
-- Requirement: RFC 8391 3.1.7, seeds
-- Requirement: RFC 8391 4.1.3, prf key
-- Requirement: RFC 8391 4.1.7, seeded
abbrev pub key_sizes : Spec → List ℕ
key_sizes (Xmss tree) = 32 ∷ 32 ∷ 32 ∷ []
key_sizes _ = 16 ∷ 32 ∷ []

-- what a new tree draws: I, SEED and C
abbrev pub tree_sizes : List ℕ
tree_sizes = 16 ∷ 32 ∷ 32 ∷ []

-- what a binding draws: C, but nothing for XMSS
abbrev pub randomizer_sizes : Secret → List ℕ
randomizer_sizes (LmsSecret secret) = 32 ∷ []
randomizer_sizes (HssSecret levels identifier seed) = 32 ∷ []
randomizer_sizes (XmssSecret secret) = []

-- A request's draws: for each new tree, and C for the binding.
pub record AreDraws (chance : Chance) : Type 0 where
  pub trees : AllByRecursion (λ draw. AreFields tree_sizes draw.fields) chance.trees
  pub bound : AreFields (32 ∷ []) chance.bound.fields

-- A request's draws under a key: as `AreDraws`, but for XMSS no C.
pub record AreDrawsOf (secret : Secret) (chance : Chance) : Type 0 where
  pub trees : AllByRecursion (λ draw. AreFields tree_sizes draw.fields) chance.trees
  pub bound : AreFields (randomizer_sizes secret) chance.bound.fields

abbrev pub IsEvent : Event → Type 0
IsEvent (create spec chance) = IsSpec spec × AreFields (key_sizes spec) chance.fields
IsEvent (request name chance) = IsName name × AreDraws chance
IsEvent _ = Unit {0}

abbrev pub AllEvents : List Event → Type 0
AllEvents events = AllByRecursion IsEvent events
