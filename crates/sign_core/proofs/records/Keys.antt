-- The key of legal records.
use Rattle.std.proofs.Common.{◌≡◌, ◌∙◌, sym, ap, List, [], ◌∷◌, Option, Some, None}
use Rattle.std.specs.Prelude.{slice_get}
use Rattle.std.proofs.lemmas.Option.{same_Some}
use Rattle.state_file.specs.Laws.{IsLegal}
use Rattle.state_file.specs.declared.record.Key.{Key}
use Rattle.state_file.specs.declared.record.Record.{Record}
use Rattle.state_file.specs.declared.record.Record.TheVariants.{Key as KeyRecord, Extend as ExtendRecord, Bound as BoundRecord, Retire, Moved}
use Rattle.sign_core.specs.Records.{the_key}

pub key_stands : (records : List Record) (key : Key) → the_key records ≡ Some key → slice_get records 0 ≡ Some (KeyRecord key)
key_stands [] key is = absurd (cc)
key_stands (KeyRecord first ∷ rest) key is = ap (λ k. Some (KeyRecord k)) (same_Some first key is)
key_stands (ExtendRecord extend ∷ rest) key is = absurd (cc)
key_stands (BoundRecord bound ∷ rest) key is = absurd (cc)
key_stands (Retire upto ∷ rest) key is = absurd (cc)
key_stands (Moved ∷ rest) key is = absurd (cc)

-- the key of a legal list is its record 0's
key_of_record : Option Record → Option Key
key_of_record (Some (KeyRecord key)) = Some key
key_of_record (Some (ExtendRecord extend)) = None
key_of_record (Some (BoundRecord bound)) = None
key_of_record (Some (Retire upto)) = None
key_of_record (Some Moved) = None
key_of_record None = None

one_key : (a b : Key) → Some (KeyRecord a) ≡ Some (KeyRecord b) → a ≡ b
unfolding key_of_record
one_key a b same = same_Some a b (ap key_of_record same)

pub legal_key : (records : List Record) (key : Key) (legal : IsLegal records) → the_key records ≡ Some key → legal.key ≡ key
legal_key records key legal is = one_key legal.key key (sym legal.first ∙ key_stands records key is)
