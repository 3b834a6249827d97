pub mod ExportedChecking
