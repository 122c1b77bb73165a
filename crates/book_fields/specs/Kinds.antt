-- The kinds of books: a replica's and an observer's.

pub data BookKind : Type 0 where
  ReplicaBook : BookKind
  ObserverBook : BookKind
