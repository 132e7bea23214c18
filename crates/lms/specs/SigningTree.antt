-- What a tree that is ready to sign shows.
use Rattle.std.specs.Prelude.{ℕ, List, take}
use Rattle.typecodes.specs.Types.{height_of}
use Rattle.lms.specs.declared.key.LmsPublic.{LmsPublic}
use Rattle.lms.specs.Secret.{rooted_public}
use Rattle.lms.specs.declared.signing_tree.SigningTree.{SigningTree}

-- the tree's public key
abbrev pub key_of : SigningTree → LmsPublic
key_of tree = rooted_public tree.secret tree.root

-- the authentication path of its leaf: the first nodes, as many as the tree is high
abbrev pub path_of_tree : SigningTree → List (List ℕ)
path_of_tree tree = take (height_of tree.secret.pair.tree) tree.path
