-- Copies counted, send by send and port by port, are the copies of the policy's meaning.
use Rattle.std.proofs.Common.{◌≡◌, ℕ, ◌+◌, ◌*◌, ◌<◌, ◌≤◌, true, cond, eqb, List, [], ◌∷◌, ◌++◌, map, length, get_or, take, is_some, Some, None, Option, refl, ap, ◌∙◌, arith, length-take}
use Rattle.std.proofs.lemmas.Bool.Decides.{nat_tests}
use Rattle.std.proofs.lemmas.List.{take_more, map_more}
use Rattle.packet.specs.declared.packet.Packet.{Packet}
use Rattle.packet.specs.declared.ports.Ports.{Ports}
use Rattle.policy.specs.declared.policy.Policy.{Policy}
use Rattle.packet.proofs.PortOrder.{each_within}
use Rattle.packet.proofs.Pushes.{items_fit}
use Rattle.packet.specs.PortLists.{times}
use Rattle.packet.specs.Written.{written}
use Rattle.policy.specs.Meaning.{copies}
use Rattle.policy.specs.Roots.{root_of, shapes_of, tree_of}
use Rattle.policy.specs.Trees.{Pol, Untaken, stack_of, only_policy, trees}
use Rattle.policy.specs.Trees.Tree.{pred, pol}
use Rattle.policy.specs.Trees.Pol.{send, both, keep}
use Rattle.policy.specs.Walks.{gives, tally}

pub times_append : (n : ℕ) (xs ys : List ℕ) → times n (xs ++ ys) ≡ times n xs + times n ys
times_append n [] ys = omega arith
times_append n (x ∷ xs) ys = omega (arith, times_append n xs ys)

pub times_short : (n : ℕ) (xs : List ℕ) → times n xs ≤ length xs
times_short n [] = omega arith
times_short n (x ∷ xs) = let short = times_short n xs in grind (arith, nat_tests)

pub times_more : (n : ℕ) (xs : List ℕ) (i : ℕ) → i < length xs → times n (take (i + 1) xs) ≡ times n (take i xs) + cond (eqb (get_or xs i 0) n) 1 0
times_more n xs i h = let more = take_more xs i 0 h in grind (arith, times_append)

tally_append : (n : ℕ) (xs ys : List (List ℕ)) → tally n (xs ++ ys) ≡ tally n xs + tally n ys
tally_append n [] ys = omega arith
tally_append n (x ∷ xs) ys = omega (arith, tally_append n xs ys)

-- the sends that count give the copies
pub tally_gives : (q : Pol) (s : ℕ) (k : Packet) (n : ℕ) → tally n (gives q s k) ≡ copies q s k n
tally_gives (send a p) s k n = grind arith
tally_gives (both a b) s k n =
    let first = tally_gives a s k n in
    let later = tally_gives b s k n in
    grind (arith, tally_append)
tally_gives (keep a b) s k n = let kept = tally_gives b s k n in grind arith

pub tally_more : (n : ℕ) (xs : List Ports) (i : ℕ) (d : Ports) → i < length xs → tally n (map written (take (i + 1) xs)) ≡ tally n (map written (take i xs)) + times n (written (get_or xs i d))
tally_more n xs i d h = let more = map_more written xs i d h in grind (arith, tally_append)

pub tally_short : (n : ℕ) (xs : List Ports) → tally n (map written xs) ≤ 8 * length xs
tally_short n [] = omega arith
tally_short n (p ∷ ps) = omega (arith, tally_short n ps, times_short n (written p), items_fit p.list)

pub only_some : (o : Option Untaken) → only_policy o ≡ true → is_some o ≡ true
only_some o e = grind arith

-- at the end one policy is left, the root
pub root_stays : (o : Option Untaken) (e : only_policy o ≡ true) → trees o ≡ pol (root_of o e) ∷ []
root_stays None e = cc
root_stays (Some []) e = cc
root_stays (Some (pred p ∷ ts)) e = cc
root_stays (Some (pol q ∷ [])) e = refl
root_stays (Some (pol q ∷ t ∷ ts)) e = cc

pub port_within : (p : Ports) (i : ℕ) → i < length (written p) → (0 < get_or (written p) i 0) × (get_or (written p) i 0 ≤ 48)
port_within p = each_within 1 48 (written p) p.right

pub port_times : (p : Ports) (n i : ℕ) → times n (take i (written p)) ≤ 8
port_times p n i = omega (arith, times_short n (take i (written p)), length-take i (written p), items_fit p.list)

-- the tree that a policy's nodes leave is its root
pub one_root : (p : Policy) {ts : Untaken} → Some ts ≡ stack_of (shapes_of p) → ts ≡ pol (tree_of p) ∷ []
one_root p e = ap trees e ∙ root_stays (stack_of (shapes_of p)) p.sound
