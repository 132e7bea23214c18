-- What records show doesn't depend on their secrets.
use Rattle.std.proofs.Common.{◌≡◌, ◌∙◌, ℕ, zero, suc, ◌+◌, ◌-◌, List, [], ◌∷◌, Option, Some, None, refl, ap, ap₂, sym, map, take}
use Rattle.std.proofs.Common.{Bool, length}
use Rattle.std.specs.Prelude.{fold, max, if◌then◌else◌, is_some, option_map, slice_get}
use Rattle.std.specs.List.{range_with_len}
use Rattle.std.proofs.lemmas.List.{length-map, take-map}
use Rattle.std.proofs.lemmas.Option.{none-some, same_Some, slice_get-map}
use Rattle.state_file.specs.declared.record.Key.{Key}
use Rattle.state_file.specs.declared.record.Record.{Record}
use Rattle.state_file.specs.declared.record.Record.TheVariants as entry
use Rattle.state_file.specs.declared.record.Secret.{Secret}
use Rattle.state_file.specs.declared.record.Secret.TheVariants.{Lms, Hss, Xmss}
use Rattle.state_file.specs.Laws.{bottom_of, has_moved, is_moved, leaves_at, levels_of}
use Rattle.sign_core.specs.declared.key.AnyPublic.{AnyPublic}
use Rattle.sign_core.specs.Textbook.{any_public, public_of_key}
use Rattle.sign_core.specs.Records.{current, free_at, free_counts, in_tree, last_extend, makes, reached_number, reached_numbers, reaches, same_tree, the_key, under, types_of}
use Rattle.sign_core.proofs.records.Parts.{next_of}
use Rattle.key_audit.specs.Listing.{ListingLaw, ReportLaw, Shown, entry_of, shown_of_records, shown_of, without_secret, without_seeds}

-- ---- a secret

types_kept : (secret : Secret) → types_of (without_seeds secret) ≡ types_of secret
types_kept (Lms secret) = refl
types_kept (Hss levels identifier seed) = refl
types_kept (Xmss secret) = refl

levels_kept : (secret : Secret) → levels_of (without_seeds secret) ≡ levels_of secret
levels_kept (Lms secret) = refl
levels_kept (Hss levels identifier seed) = refl
levels_kept (Xmss secret) = refl

leaves_kept : (secret : Secret) (level : ℕ) → leaves_at (without_seeds secret) level ≡ leaves_at secret level
leaves_kept (Lms secret) level = refl
leaves_kept (Hss levels identifier seed) level = refl
leaves_kept (Xmss secret) level = refl

bottom_kept : (secret : Secret) → bottom_of (without_seeds secret) ≡ bottom_of secret
bottom_kept secret = ap (λ n. n - 1) (levels_kept secret)

-- ---- trees

makes_kept : (level : ℕ) (r : Record) → makes level (without_secret r) ≡ makes level r
makes_kept level (entry.Key key) = refl
makes_kept level (entry.Extend extend) = refl
makes_kept level (entry.Bound bound) = refl
makes_kept level (entry.Retire upto) = refl
makes_kept level entry.Moved = refl

last_kept : (level k : ℕ) (found : Option ℕ) (records : List Record)
    → last_extend level k found (map without_secret records) ≡ last_extend level k found records
last_kept level k found [] = refl
last_kept level k found (r ∷ rest) =
    ap (λ b. last_extend level (k + 1) (if b then Some k else found) (map without_secret rest)) (makes_kept level r)
    ∙ last_kept level (k + 1) (if makes level r then Some k else found) rest

under_kept : (above : List Record → Option ℕ) (records : List Record) (found : Option ℕ)
    → ((rs : List Record) → above (map without_secret rs) ≡ above rs)
    → under above (map without_secret records) found ≡ under above records found
under_kept above records None same = refl
under_kept above records (Some j) same =
    ap₂ (λ before now. if same_tree before now then Some j else None)
    (ap above (take-map without_secret j records) ∙ same (take j records)) (same records)

current_kept : (level : ℕ) (records : List Record) → current level (map without_secret records) ≡ current level records
current_kept zero records = refl
current_kept (suc level) records =
    ap (under (current level) (map without_secret records)) (last_kept (suc level) 0 None records)
    ∙ under_kept (current level) records (last_extend (suc level) 0 None records) (λ rs. current_kept level rs)

-- ---- leaves

reaches_kept : (secret : Secret) (before : List Record) (r : Record)
    → reaches (without_seeds secret) (map without_secret before) (without_secret r) ≡ reaches secret before r
reaches_kept secret before (entry.Key key) = refl
reaches_kept secret before (entry.Extend extend) =
    ap (λ tree. in_tree tree (extend.parent_leaf + 1)) (current_kept (extend.level - 1) before)
reaches_kept secret before (entry.Bound bound) =
    ap (λ level. in_tree (current level (map without_secret before)) (bound.leaf + 1)) (bottom_kept secret)
    ∙ ap (λ tree. in_tree tree (bound.leaf + 1)) (current_kept (bottom_of secret) before)
reaches_kept secret before (entry.Retire upto) =
    ap (λ level. in_tree (current level (map without_secret before)) upto) (bottom_kept secret)
    ∙ ap (λ tree. in_tree tree upto) (current_kept (bottom_of secret) before)
reaches_kept secret before entry.Moved = refl

numbers_kept : (secret : Secret) (all : List Record) (tree k : ℕ) (records : List Record)
    → reached_numbers (without_seeds secret) (map without_secret all) tree k (map without_secret records)
    ≡ reached_numbers secret all tree k records
numbers_kept secret all tree k [] = refl
numbers_kept secret all tree k (r ∷ rest) =
    ap₂ (λ n ns. n ∷ ns)
    (ap (reached_number tree) (ap (λ before. reaches (without_seeds secret) before (without_secret r)) (take-map without_secret k all)
    ∙ reaches_kept secret (take k all) r))
    (numbers_kept secret all tree (k + 1) rest)

next_kept : (secret : Secret) (records : List Record) (tree : Option ℕ)
    → next_of (without_seeds secret) (map without_secret records) tree ≡ next_of secret records tree
next_kept secret records None = refl
next_kept secret records (Some tree) = ap (fold max 0) (numbers_kept secret records tree 0 records)

free_kept : (secret : Secret) (records : List Record) (level : ℕ)
    → free_at (without_seeds secret) (map without_secret records) level ≡ free_at secret records level
free_kept secret records level =
    ap (λ tree. if is_some tree then leaves_at (without_seeds secret) level - next_of (without_seeds secret) (map without_secret records) tree else 0)
    (current_kept level records)
    ∙ ap₂ (λ leaves next. if is_some (current level records) then leaves - next else 0) (leaves_kept secret level)
    (next_kept secret records (current level records))

frees_kept : (secret : Secret) (records : List Record) (levels : List ℕ)
    → map (free_at (without_seeds secret) (map without_secret records)) levels ≡ map (free_at secret records) levels
frees_kept secret records [] = refl
frees_kept secret records (level ∷ levels) = ap₂ (λ n ns. n ∷ ns) (free_kept secret records level) (frees_kept secret records levels)

counts_kept : (secret : Secret) (records : List Record)
    → free_counts (without_seeds secret) (map without_secret records) ≡ free_counts secret records
counts_kept secret records =
    ap (λ n. map (free_at (without_seeds secret) (map without_secret records)) (range_with_len 0 n)) (levels_kept secret)
    ∙ frees_kept secret records (range_with_len 0 (levels_of secret))

-- ---- what is shown

entry_kept : (r : Record) → entry_of (without_secret r) ≡ entry_of r
entry_kept (entry.Key key) = refl
entry_kept (entry.Extend extend) = refl
entry_kept (entry.Bound bound) = refl
entry_kept (entry.Retire upto) = refl
entry_kept entry.Moved = refl

entries_kept : (records : List Record) → map entry_of (map without_secret records) ≡ map entry_of records
entries_kept [] = refl
entries_kept (r ∷ rest) = ap₂ (λ e es. e ∷ es) (entry_kept r) (entries_kept rest)

shown_kept_of : (records : List Record) (key : Key)
    → shown_of (map without_secret records) (record key { secret = without_seeds key.secret }) ≡ shown_of records key
shown_kept_of records key =
    rw (types_kept key.secret, counts_kept key.secret records, entries_kept records) refl

shown_kept : (records : List Record) → shown_of_records (map without_secret records) ≡ shown_of_records records
shown_kept [] = refl
shown_kept (entry.Key key ∷ rest) = ap (λ s. Some s) (shown_kept_of (entry.Key key ∷ rest) key)
shown_kept (entry.Extend extend ∷ rest) = refl
shown_kept (entry.Bound bound ∷ rest) = refl
shown_kept (entry.Retire upto ∷ rest) = refl
shown_kept (entry.Moved ∷ rest) = refl

pub listing_law : ListingLaw
listing_law a b same = sym (shown_kept a) ∙ ap shown_of_records same ∙ shown_kept b

-- ---- what an audit reports

public_of_secret : (secret : Secret) (root : List ℕ) → any_public (without_seeds secret) root ≡ any_public secret root
public_of_secret (Lms secret) root = refl
public_of_secret (Hss [] identifier seed) root = refl
public_of_secret (Hss (pair ∷ rest) identifier seed) root = refl
public_of_secret (Xmss secret) root = refl

public_kept : (records : List Record)
    → public_of_key (the_key (map without_secret records)) ≡ public_of_key (the_key records)
public_kept [] = refl
public_kept (entry.Key key ∷ rest) = public_of_secret key.secret key.root
public_kept (entry.Extend extend ∷ rest) = refl
public_kept (entry.Bound bound ∷ rest) = refl
public_kept (entry.Retire upto ∷ rest) = refl
public_kept (entry.Moved ∷ rest) = refl

moved_record : (found : Option Record) → is_moved (option_map without_secret found) ≡ is_moved found
moved_record None = refl
moved_record (Some (entry.Key key)) = refl
moved_record (Some (entry.Extend extend)) = refl
moved_record (Some (entry.Bound bound)) = refl
moved_record (Some (entry.Retire upto)) = refl
moved_record (Some entry.Moved) = refl

moved_kept : (records : List Record) → has_moved (map without_secret records) ≡ has_moved records
moved_kept records =
    ap (λ n. is_moved (slice_get (map without_secret records) (n - 1))) (length-map records without_secret)
    ∙ ap is_moved (slice_get-map without_secret records (length records - 1))
    ∙ moved_record (slice_get records (length records - 1))

key_there : (found : Option Key) (public : AnyPublic) → public_of_key found ≡ Some public → (key : Key) × (found ≡ Some key)
key_there (Some key) public is = (key, refl)
key_there None public is = absurd (none-some public is)

pub report_law : ReportLaw
report_law a b one other same first second =
    let (key, keyed) = key_there (the_key a) one.public first.public_is in
    let (own, owned) = key_there (the_key b) other.public second.public_is in
    let publics : Some one.public ≡ Some other.public =
    sym first.public_is ∙ sym (public_kept a) ∙ ap (λ l. public_of_key (the_key l)) same ∙ public_kept b ∙ second.public_is in
    let counts : length a ≡ length b =
    sym (length-map a without_secret) ∙ ap length same ∙ length-map b without_secret in
    let shown : Some (shown_of a key) ≡ Some (shown_of b own) =
    sym (ap (λ found. option_map (shown_of a) found) keyed) ∙ listing_law a b same
    ∙ ap (λ found. option_map (shown_of b) found) owned in
    let moved : has_moved a ≡ has_moved b = sym (moved_kept a) ∙ ap has_moved same ∙ moved_kept b in
    record {
      public = same_Some one.public other.public publics;
      records = first.count ∙ counts ∙ sym second.count;
      left = first.left_are key keyed
          ∙ ap (λ (s : Shown). s.left) (same_Some (shown_of a key) (shown_of b own) shown)
          ∙ sym (second.left_are own owned);
      moved = first.moved_is ∙ ap (λ (m : Bool). if m then Some 2 else None) moved ∙ sym second.moved_is;
    }
