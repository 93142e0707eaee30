-- Connections in which some ends are told the end, one after another.
use Rattle.std.proofs.Common.{◌≡◌, ℕ, suc, Bool, true, false, List, [], ◌∷◌, ◌++◌, length, map, refl, sym, ◌∙◌, ap, subst, append_assoc, Option, Some, None, inl, inr}
use Rattle.std.specs.Prelude.{◌||◌, if◌then◌else◌}
use Rattle.wire_peer.specs.declared.client_state.ClientState.{ClientState}
use Rattle.wire_peer.specs.declared.client_state.ClientState.TheVariants.{Open, Closed}
use Rattle.wire_model.specs.Conns.{Conn, conn_at, conn_set, has_closed_client, is_closed}
use Rattle.wire_model.specs.Cuts.{all_cut, change, cut_at, cut_both, cut_down, cut_up, restarted}
use Rattle.wire_model.proofs.Lists.{same_or_not}
use Rattle.wire_model.proofs.Places.{conn_here, conn_set-here, conn_set-other, conn_set-same, conn_set-twice, length-conn_set}
use Rattle.wire_model.proofs.Settling.{IsShut}

-- one end after another is told the end
pub data Shuts (ks : List Conn) : List Conn → Type 0 where
  stays : Shuts ks ks
  up : {js is : List Conn} (c : ℕ) (k : Conn) → Shuts ks js → conn_at js c ≡ Some k → is ≡ conn_set js c (cut_up k) → Shuts ks is
  down : {js is : List Conn} (c : ℕ) (k : Conn) → Shuts ks js → conn_at js c ≡ Some k → is ≡ conn_set js c (cut_down k) → Shuts ks is

pub shuts_then : (ks js is : List Conn) → Shuts ks js → Shuts js is → Shuts ks is
shuts_then ks js is s stays = s
shuts_then ks js is s (up {js = hs} c k t at e) = up c k (shuts_then ks js hs s t) at e
shuts_then ks js is s (down {js = hs} c k t at e) = down c k (shuts_then ks js hs s t) at e

-- ---- which cuts are such

shuts_both : (ks : List Conn) (c : ℕ) (o : Option Conn) → conn_at ks c ≡ o → Shuts ks (change cut_both o c ks)
shuts_both ks c None at = stays
shuts_both ks c (Some k) at = down {js = conn_set ks c (cut_up k)} c (cut_up k) (up c k stays at refl) (conn_set-same ks c k (cut_up k) at) (sym (conn_set-twice ks c (cut_up k) (cut_both k)))

pub shuts_cut_at : (ks : List Conn) (c : ℕ) → Shuts ks (cut_at c ks)
shuts_cut_at ks c = shuts_both ks c (conn_at ks c) refl

pub shuts_all_cut : (cs : List ℕ) (ks : List Conn) → Shuts ks (all_cut cs ks)
shuts_all_cut [] ks = stays
shuts_all_cut (c ∷ cs) ks = shuts_then ks (cut_at c ks) (all_cut cs (cut_at c ks)) (shuts_cut_at ks c) (shuts_all_cut cs (cut_at c ks))

shuts_one : (ks : List Conn) (k : Conn) (js : List Conn) → Shuts (ks ++ k ∷ js) (ks ++ restarted k ∷ js)
shuts_one ks k js = by (k.raw || k.down_cut)
  where
    by : (b : Bool) → Shuts (ks ++ k ∷ js) (ks ++ (if b then k else cut_down k) ∷ js)
    by true = stays
    by false = down (suc (length ks)) k stays (conn_here ks k js) (sym (conn_set-here ks k (cut_down k) js))

shuts_rest : (ks js : List Conn) → Shuts (ks ++ js) (ks ++ map restarted js)
shuts_rest ks [] = stays
shuts_rest ks (k ∷ js) = shuts_then (ks ++ k ∷ js) (ks ++ restarted k ∷ js) (ks ++ restarted k ∷ map restarted js) (shuts_one ks k js)
    (subst (λ z. Shuts z (ks ++ restarted k ∷ map restarted js)) (append_assoc ks (restarted k ∷ []) js)
    (subst (λ z. Shuts ((ks ++ restarted k ∷ []) ++ js) z) (append_assoc ks (restarted k ∷ []) (map restarted js)) (shuts_rest (ks ++ restarted k ∷ []) js)))

pub shuts_restarted : (ks : List Conn) → Shuts ks (map restarted ks)
shuts_restarted ks = shuts_rest [] ks

-- ---- what stays

pub shuts_length : (ks js : List Conn) → Shuts ks js → length js ≡ length ks
shuts_length ks js stays = refl
shuts_length ks js (up {js = is} c k s at e) = ap length e ∙ length-conn_set is c (cut_up k) ∙ shuts_length ks is s
shuts_length ks js (down {js = is} c k s at e) = ap length e ∙ length-conn_set is c (cut_down k) ∙ shuts_length ks is s

-- ---- what is closed stays so

pub shut_after : (k : Conn) → is_closed (cut_down k).client.state ≡ true
shut_after k = by k.client.state refl
  where
    by : (t : ClientState) → k.client.state ≡ t → is_closed (cut_down k).client.state ≡ true
    by Open e = rw e refl
    by (Closed first) e = rw e refl

pub down_is_shut : (ks : List Conn) (c : ℕ) (k : Conn) → conn_at ks c ≡ Some k → IsShut (conn_set ks c (cut_down k)) c
down_is_shut ks c k at = ap has_closed_client (conn_set-same ks c k (cut_down k) at) ∙ shut_after k

pub shut_stays : (ks : List Conn) (c : ℕ) (k k' : Conn) → conn_at ks c ≡ Some k → (is_closed k.client.state ≡ true → is_closed k'.client.state ≡ true) → (d : ℕ) → IsShut ks d → IsShut (conn_set ks c k') d
shut_stays ks c k k' at more d shut = elim (same_or_not d c) [
  | inl e ↦ ap has_closed_client (ap (conn_at (conn_set ks c k')) e ∙ conn_set-same ks c k k' at) ∙ more (sym (ap has_closed_client (ap (conn_at ks) e ∙ at)) ∙ shut)
  | inr n ↦ ap has_closed_client (conn_set-other ks c d k' n) ∙ shut
]

pub down_stays : (ks : List Conn) (c : ℕ) (k : Conn) → conn_at ks c ≡ Some k → (d : ℕ) → IsShut ks d → IsShut (conn_set ks c (cut_down k)) d
down_stays ks c k at = shut_stays ks c k (cut_down k) at (λ _. shut_after k)

pub up_stays : (ks : List Conn) (c : ℕ) (k : Conn) → conn_at ks c ≡ Some k → (d : ℕ) → IsShut ks d → IsShut (conn_set ks c (cut_up k)) d
up_stays ks c k at = shut_stays ks c k (cut_up k) at (λ e. e)
