pub mod BoundCall
