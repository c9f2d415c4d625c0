-- Which requests are applied, and that none is twice.
use Rattle.std.proofs.Common.{◌≡◌, ℕ, zero, suc, ◌<◌, ◌≤◌, Bool, true, false, ◌&&◌, ◌||◌, eqb, leb, ◌⊎◌, List, [], ◌∷◌, length, get_or, set, replicate, sym, refl, ap, ◌∙◌, subst, inl, inr, arith}
use mathlib.Core.Bool.{or-false}
use Rattle.std.proofs.lemmas.List.{length-set, length-replicate, get_or-replicate, get_or_past, get_or-set_same, get_or-set_other}
use Rattle.std.proofs.lemmas.Bool.{cases_Bool, cases_eq, cases_lt, cond-true, cond-false, cond_both, and_parts, and_from, leb-true, eq-eqb, ne_eqb, or_left, or_parts, both_ways}
use Rattle.wire.specs.declared.records.Request.{Request}
use Rattle.window.specs.declared.window.Window.{Window}
use Rattle.window.specs.declared.windows.Windows.{Windows}
use Rattle.window.specs.Spans.{free, seen}
use Rattle.window.specs.Marked.{after, fresh, free_range}
use Rattle.window.specs.Clients.{all_fresh, window_of, admits, marks}
use Rattle.window.specs.Histories.{windows_then, windows_after, served, names, Stands, no_request}
use Rattle.window.specs.Laws.{Full, NewFull, StaysFull, Apart, ServedOnce, ServedStands, ServedRanges, SeenGrows, SeenServed}
use Rattle.window.proofs.Seen.{mark_adds, free_unseen, fresh_unseen}
use Rattle.window.proofs.History.{or_swap}

-- one request's test, and the two ways on
abbrev pub admitted : Windows → Request → Bool
admitted ws q = admits ws q.client q.timestamp

abbrev pub marking : Windows → Request → Windows
marking ws q = marks ws q.client q.timestamp

pub admitted_parts : (ws : Windows) (q : Request) → admitted ws q ≡ true → (q.client ≤ 31) × (free (window_of ws q.client).span q.timestamp ≡ true)
admitted_parts ws q e =
    let p = and_parts (leb q.client 31) (free (window_of ws q.client).span q.timestamp) e in
    (leb-true q.client 31 p.0, p.1)

pub served_yes : (ws : Windows) (q : Request) (qs : List Request) → admitted ws q ≡ true → served ws (q ∷ qs) ≡ q ∷ served (marking ws q) qs
served_yes ws q qs e = cond-true (admitted ws q) (q ∷ served (marking ws q) qs) (served ws qs) e

pub served_no : (ws : Windows) (q : Request) (qs : List Request) → admitted ws q ≡ false → served ws (q ∷ qs) ≡ served ws qs
served_no ws q qs e = cond-false (admitted ws q) (q ∷ served (marking ws q) qs) (served ws qs) e

pub then_yes : (ws : Windows) (q : Request) → admitted ws q ≡ true → windows_then ws q ≡ marking ws q
then_yes ws q e = cond-true (admitted ws q) (marking ws q) ws e

pub then_no : (ws : Windows) (q : Request) → admitted ws q ≡ false → windows_then ws q ≡ ws
then_no ws q e = cond-false (admitted ws q) (marking ws q) ws e

-- the window that a mark leaves to its client
abbrev put_window : Windows → Request → Windows
put_window ws q = record { clients = set ws.clients q.client (after (window_of ws q.client) q.timestamp) }

marking_is : (ws : Windows) (q : Request) → admitted ws q ≡ true → marking ws q ≡ put_window ws q
marking_is ws q e =
    let p = and_parts (leb q.client 31) (free (window_of ws q.client).span q.timestamp) e in
    cond-true (leb q.client 31) (put_window ws q) ws p.0

pub marking_full : (ws : Windows) (q : Request) → admitted ws q ≡ true → Full ws → Full (marking ws q)
marking_full ws q e full =
    ap (λ (v : Windows). length v.clients) (marking_is ws q e) ∙ length-set ws.clients q.client (after (window_of ws q.client) q.timestamp) ∙ full

pub stays_full : StaysFull
stays_full ws [] full = full
stays_full ws (q ∷ qs) full =
    stays_full (windows_then ws q) qs (cond_both (admitted ws q) (marking ws q) ws Full (λ e. marking_full ws q e full) (λ _. full))

-- a mark adds the client's timestamp to what is seen of the clients, and no other
pub seen_marking : (ws : Windows) (q : Request) → Full ws → admitted ws q ≡ true → (client u : ℕ) → seen (window_of (marking ws q) client).span u ≡ ((eqb client q.client && eqb u q.timestamp) || seen (window_of ws client).span u)
seen_marking ws q full e client u = ap (λ (v : Windows). seen (window_of v client).span u) (marking_is ws q e) ∙ go (cases_eq client q.client)
  where
    go : (client ≡ q.client) ⊎ (client ≡ q.client → ⊥) → seen (window_of (put_window ws q) client).span u ≡ ((eqb client q.client && eqb u q.timestamp) || seen (window_of ws client).span u)
    go (inl same) =
        let p = admitted_parts ws q e in
        let v = window_of ws q.client in
        let inside : q.client < length ws.clients = omega (arith, p.0, full) in
        ap (λ n. seen (window_of (put_window ws q) n).span u) same
        ∙ ap (λ (x : Window). seen x.span u) (get_or-set_same ws.clients q.client (after v q.timestamp) fresh inside)
        ∙ mark_adds v q.timestamp u p.1
        ∙ sym (ap (λ b. (b && eqb u q.timestamp) || seen v.span u) (eq-eqb client q.client same))
        ∙ ap (λ n. (eqb client q.client && eqb u q.timestamp) || seen (window_of ws n).span u) (sym same)
    go (inr other) =
        ap (λ (x : Window). seen x.span u) (get_or-set_other ws.clients q.client client (after (window_of ws q.client) q.timestamp) fresh other)
        ∙ sym (ap (λ b. (b && eqb u q.timestamp) || seen (window_of ws client).span u) (ne_eqb client q.client other))

pub seen_grows : SeenGrows
seen_grows ws [] full client u = refl
seen_grows ws (q ∷ qs) full client u = go (cases_Bool (admitted ws q)) (λ e. seen_grows (marking ws q) qs (marking_full ws q e full) client u) (seen_grows ws qs full client u)
  where
    go : (admitted ws q ≡ true) ⊎ (admitted ws q ≡ false)
        → (admitted ws q ≡ true → seen (window_of (windows_after (marking ws q) qs) client).span u ≡ (names client u (served (marking ws q) qs) || seen (window_of (marking ws q) client).span u))
        → seen (window_of (windows_after ws qs) client).span u ≡ (names client u (served ws qs) || seen (window_of ws client).span u)
        → seen (window_of (windows_after ws (q ∷ qs)) client).span u ≡ (names client u (served ws (q ∷ qs)) || seen (window_of ws client).span u)
    go (inl e) more same =
        ap (λ (v : Windows). seen (window_of (windows_after v qs) client).span u) (then_yes ws q e)
        ∙ more e
        ∙ ap (λ b. names client u (served (marking ws q) qs) || b) (seen_marking ws q full e client u)
        ∙ or_swap (names client u (served (marking ws q) qs)) (eqb client q.client && eqb u q.timestamp) (seen (window_of ws client).span u)
        ∙ sym (ap (λ (l : List Request). names client u l || seen (window_of ws client).span u) (served_yes ws q qs e))
    go (inr e) more same =
        ap (λ (v : Windows). seen (window_of (windows_after v qs) client).span u) (then_no ws q e)
        ∙ same
        ∙ sym (ap (λ (l : List Request). names client u l || seen (window_of ws client).span u) (served_no ws q qs e))

pub fresh_full : NewFull
fresh_full = length-replicate 32 fresh

fresh_window : (client : ℕ) → window_of all_fresh client ≡ fresh
fresh_window client = go (cases_lt client 32)
  where
    go : (client < 32) ⊎ (32 ≤ client) → window_of all_fresh client ≡ fresh
    go (inl h) = get_or-replicate 32 client fresh fresh h
    go (inr h) = get_or_past (replicate 32 fresh) client fresh h

pub seen_served : SeenServed
seen_served qs client u h =
    seen_grows all_fresh qs fresh_full client u
    ∙ ap (λ (w : Window). names client u (served all_fresh qs) || seen w.span u) (fresh_window client)
    ∙ ap (λ b. names client u (served all_fresh qs) || b) (fresh_unseen u h)
    ∙ or-false (names client u (served all_fresh qs))

-- a request that stands in a list of served ones comes from the first or from the rest
stands_served : (ws : Windows) (q : Request) (qs : List Request) (r : Request) → Stands r (served ws (q ∷ qs)) → ((admitted ws q ≡ true) × ((q ≡ r) ⊎ Stands r (served (marking ws q) qs))) ⊎ ((admitted ws q ≡ false) × Stands r (served ws qs))
stands_served ws q qs r =
    cond_both (admitted ws q) (q ∷ served (marking ws q) qs) (served ws qs)
    (λ l. Stands r l → ((admitted ws q ≡ true) × ((q ≡ r) ⊎ Stands r (served (marking ws q) qs))) ⊎ ((admitted ws q ≡ false) × Stands r (served ws qs)))
    (λ e h. inl (e, h)) (λ e h. inr (e, h))

pub served_stands : ServedStands
served_stands ws [] r h = h
served_stands ws (q ∷ qs) r h = go (stands_served ws q qs r h) (served_stands (marking ws q) qs r) (served_stands ws qs r)
  where
    go : ((admitted ws q ≡ true) × ((q ≡ r) ⊎ Stands r (served (marking ws q) qs))) ⊎ ((admitted ws q ≡ false) × Stands r (served ws qs))
        → (Stands r (served (marking ws q) qs) → Stands r qs) → (Stands r (served ws qs) → Stands r qs) → Stands r (q ∷ qs)
    go (inl (e, inl is)) more same = inl is
    go (inl (e, inr h)) more same = inr (more h)
    go (inr (e, h)) more same = inr (same h)

-- what holds of each admitted request, whatever the windows, holds of each served one
served_each : (P : Request → Type 0) → ((ws : Windows) (q : Request) → admitted ws q ≡ true → P q) → (ws : Windows) (qs : List Request) (r : Request) → Stands r (served ws qs) → P r
served_each P each ws [] r h = absurd h
served_each P each ws (q ∷ qs) r h = go (stands_served ws q qs r h) (served_each P each (marking ws q) qs r) (served_each P each ws qs r)
  where
    go : ((admitted ws q ≡ true) × ((q ≡ r) ⊎ Stands r (served (marking ws q) qs))) ⊎ ((admitted ws q ≡ false) × Stands r (served ws qs))
        → (Stands r (served (marking ws q) qs) → P r) → (Stands r (served ws qs) → P r) → P r
    go (inl (e, inl is)) more same = subst P is (each ws q e)
    go (inl (e, inr h)) more same = more h
    go (inr (e, h)) more same = same h

pub served_ranges : ServedRanges
served_ranges =
    served_each (λ q. (q.client ≤ 31) × (1 ≤ q.timestamp) × (q.timestamp ≤ 4294967295))
    (λ ws q e. let p = admitted_parts ws q e in let r = free_range (window_of ws q.client).span q.timestamp p.1 in (p.0, omega (arith, r.0), r.2))

-- what is served was not seen before
pub served_unseen : (ws : Windows) (qs : List Request) → Full ws → (r : Request) → Stands r (served ws qs) → seen (window_of ws r.client).span r.timestamp ≡ false
served_unseen ws [] full r h = absurd h
served_unseen ws (q ∷ qs) full r h = go (stands_served ws q qs r h) (λ e. served_unseen (marking ws q) qs (marking_full ws q e full) r) (served_unseen ws qs full r)
  where
    go : ((admitted ws q ≡ true) × ((q ≡ r) ⊎ Stands r (served (marking ws q) qs))) ⊎ ((admitted ws q ≡ false) × Stands r (served ws qs))
        → (admitted ws q ≡ true → Stands r (served (marking ws q) qs) → seen (window_of (marking ws q) r.client).span r.timestamp ≡ false)
        → (Stands r (served ws qs) → seen (window_of ws r.client).span r.timestamp ≡ false)
        → seen (window_of ws r.client).span r.timestamp ≡ false
    go (inl (e, inl is)) more same =
        subst (λ (p : Request). seen (window_of ws p.client).span p.timestamp ≡ false) is
        (free_unseen (window_of ws q.client) q.timestamp (admitted_parts ws q e).1)
    go (inl (e, inr h)) more same =
        (or_parts (eqb r.client q.client && eqb r.timestamp q.timestamp) (seen (window_of ws r.client).span r.timestamp)
        (sym (seen_marking ws q full e r.client r.timestamp) ∙ more e h)).1
    go (inr (e, h)) more same = same h

getD_stands : (qs : List Request) (j : ℕ) → j < length qs → Stands (get_or qs j no_request) qs
getD_stands [] j h = absurd (omega arith)
getD_stands (q ∷ qs) zero h = inl refl
getD_stands (q ∷ qs) (suc j) h = inr (getD_stands qs j (omega arith))

-- a request before others that are apart from it and from one another
apart_more : (q : Request) (qs : List Request) → ((r : Request) → Stands r qs → q.client ≡ r.client → q.timestamp ≡ r.timestamp → ⊥) → Apart qs → Apart (q ∷ qs)
apart_more q qs first rest zero zero lt inside = absurd (omega arith)
apart_more q qs first rest zero (suc j) lt inside = first (get_or qs j no_request) (getD_stands qs j (omega arith))
apart_more q qs first rest (suc i) zero lt inside = absurd (omega arith)
apart_more q qs first rest (suc i) (suc j) lt inside = rest i j (omega arith) (omega arith)

pub served_once : ServedOnce
served_once ws [] full = λ i j lt inside. absurd (omega arith)
served_once ws (q ∷ qs) full =
    cond_both (admitted ws q) (q ∷ served (marking ws q) qs) (served ws qs) Apart
    (λ e. apart_more q (served (marking ws q) qs) (first e) (served_once (marking ws q) qs (marking_full ws q e full)))
    (λ e. served_once ws qs full)
  where
    first : admitted ws q ≡ true → (r : Request) → Stands r (served (marking ws q) qs) → q.client ≡ r.client → q.timestamp ≡ r.timestamp → ⊥
    first e r h a b =
        let own : (eqb r.client q.client && eqb r.timestamp q.timestamp) ≡ true = and_from _ _ (eq-eqb r.client q.client (sym a)) (eq-eqb r.timestamp q.timestamp (sym b)) in
        let is = seen_marking ws q full e r.client r.timestamp in
        both_ways (seen (window_of (marking ws q) r.client).span r.timestamp)
        (served_unseen (marking ws q) qs (marking_full ws q e full) r h)
        (is ∙ or_left (eqb r.client q.client && eqb r.timestamp q.timestamp) (seen (window_of ws r.client).span r.timestamp) own)
