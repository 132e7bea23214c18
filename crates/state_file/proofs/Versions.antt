-- Versions and their codes.
use Rattle.std.proofs.Common.{◌≡◌, List, [], ◌∷◌, ◌++◌, refl, sym, ◌∙◌, subst, arith}
use Rattle.state_file.specs.declared.record.Record.{Record}
use Rattle.state_file.specs.declared.record.Record.TheVariants.{Key as KeyRecord, Extend as ExtendRecord, Bound as BoundRecord, Retire, Moved}
use Rattle.state_file.specs.declared.record.Version.{Version}
use Rattle.state_file.specs.declared.record.Version.TheVariants.{One, Two}
use Rattle.state_file.specs.Slot.{FitsVersion, version_code, file_version}
use Rattle.state_file.specs.Store.{CanFollow}

pub one_code : (a b : Version) → version_code a ≡ version_code b → a ≡ b
one_code One One same = refl
one_code One Two same = absurd (omega (arith, same))
one_code Two One same = absurd (omega (arith, same))
one_code Two Two same = refl

-- The version after a record was added is the longer list's.
pub goes_on_in : (records : List Record) (entry : Record) (file version : Version) → CanFollow records entry → version_code file ≡ version_code (file_version records) → FitsVersion version entry
    → (FitsVersion file entry → version ≡ file) → version ≡ file_version (records ++ entry ∷ [])
goes_on_in [] (KeyRecord key) file version follows of_file fits same = sym fits
goes_on_in [] (ExtendRecord extend) file version follows of_file fits same = absurd (let is = follows in cc)
goes_on_in [] (BoundRecord bound) file version follows of_file fits same = absurd (let is = follows in cc)
goes_on_in [] (Retire upto) file version follows of_file fits same = absurd (let is = follows in cc)
goes_on_in [] Moved file version follows of_file fits same = absurd (let is = follows in cc)
goes_on_in (first ∷ rest) entry file version follows of_file fits same =
    let is = one_code file (file_version (first ∷ rest)) of_file in
    same (subst (λ v. FitsVersion v entry) (sym is) follows) ∙ is
